use Rattle.std.proofs.Common.{◌≡◌, List, [], ◌∷◌, ◌++◌, sym, ◌∙◌, ap, subst, arith}
use Rattle.heap_geometry.specs.declared.need.Need.TheVariants.{Large}
use Rattle.heap_geometry.specs.Need.{IsNeed}
use Rattle.pool_model.specs.declared.event.Event.{Event}
use Rattle.pool_model.specs.declared.event.Event.TheVariants.{Refuse}
use Rattle.pool_model.specs.Pool.{pool_of}
use Rattle.plain_pool.specs.Plain.{PlainState, IsFull, pool_in}
use Rattle.plain_pool.specs.Stored.{IsPlainKept}
use Rattle.pool_model.proofs.NeedOfLemmas.{need_of-within}
use Rattle.plain_pool.proofs.KeptLemmas.{kept-geometry}
use Rattle.plain_pool.proofs.RefusalLemmas.{kept-refused_run}
use Rattle.plain_pool.proofs.pool.PlainPool.alloc_run.Goals as goal

pub run_place-requires-clause-some : goal.run_place-requires-clause-some
run_place-requires-clause-some c = omega (arith, (subst IsNeed c.requires.units (need_of-within c.args.need)).0)

pub run_place-requires-clause-within : goal.run_place-requires-clause-within
run_place-requires-clause-within c = (subst IsNeed c.requires.units (need_of-within c.args.need)).1

pub invariant_of-self-2 : goal.invariant_of-self-2
invariant_of-self-2 c =
    let full : IsFull c.self.inside.geometry (pool_of c.self.inside.events.items) (Large c.args.units) =
    subst (λ (s : PlainState). IsFull s.geometry (pool_in s) (Large c.args.units)) (sym c.self.view_is) c.in_default.ensures.none in
    let events : c.record.new.events.items ≡ c.self.inside.events.items ++ Refuse c.args.caller c.args.need ∷ [] =
    c.record.ensures.items ∙ ap (λ (xs : List Event). xs ++ Refuse c.args.caller c.args.need ∷ []) c.in_ok-reserve.ensures.items in
    subst (IsPlainKept c.self.inside.geometry c.self.inside.blocks) (sym events)
    (kept-refused_run c.self.inside.geometry c.self.inside.blocks c.self.inside.events.items c.args.caller c.args.need c.args.units
    c.self.invariant
    (kept-geometry c.args.self.now c.self.inside.geometry c.self.inside.events.items c.args.caller c.self.view_is c.requires.caller)
    c.requires.units full)

pub returns-clause-legal : goal.returns-clause-legal
returns-clause-legal c = (invariant_of-self-2 c).legal
