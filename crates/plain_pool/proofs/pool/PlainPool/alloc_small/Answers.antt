use Rattle.std.proofs.Common.{◌≡◌, ◌<◌, List, [], ◌∷◌, ◌++◌, sym, ◌∙◌, ap, subst}
use Rattle.heap_geometry.specs.declared.need.Need.TheVariants.{Small}
use Rattle.heap_geometry.specs.declared.limits.TheConstants.{CLASSES}
use Rattle.heap_geometry.specs.Need.{IsNeed}
use Rattle.pool_model.specs.declared.event.Event.{Event}
use Rattle.pool_model.specs.declared.event.Event.TheVariants.{Looked, Refuse}
use Rattle.pool_model.specs.Pool.{pool_of}
use Rattle.plain_pool.specs.Plain.{PlainState, IsFull, pool_in}
use Rattle.plain_pool.specs.Stored.{IsPlainKept}
use Rattle.pool_model.proofs.NeedOfLemmas.{need_of-within}
use Rattle.plain_pool.proofs.KeptLemmas.{kept-geometry}
use Rattle.plain_pool.proofs.RefusalLemmas.{kept-refused_small}
use Rattle.plain_pool.proofs.pool.PlainPool.alloc_small.Goals as goal

pub small_place-requires : goal.small_place-requires
small_place-requires c = subst IsNeed c.requires.class (need_of-within c.args.need)

pub invariant_of-self-2 : goal.invariant_of-self-2
invariant_of-self-2 c =
    let is_class : c.args.class < CLASSES = subst IsNeed c.requires.class (need_of-within c.args.need) in
    let full : IsFull c.self.inside.geometry (pool_of c.self.inside.events.items) (Small c.args.class) =
    subst (λ (s : PlainState). IsFull s.geometry (pool_in s) (Small c.args.class)) (sym c.self.view_is) c.in_default.ensures.none in
    let looked : c.record.new.events.items ≡ c.self.inside.events.items ++ Looked c.args.caller c.args.class ∷ [] =
    c.record.ensures.items ∙ ap (λ (xs : List Event). xs ++ Looked c.args.caller c.args.class ∷ []) c.in_ok-reserve.ensures.items in
    let events : c.record-2.new.events.items ≡ (c.self.inside.events.items ++ Looked c.args.caller c.args.class ∷ []) ++ Refuse c.args.caller c.args.need ∷ [] =
    c.record-2.ensures.items ∙ ap (λ (xs : List Event). xs ++ Refuse c.args.caller c.args.need ∷ []) looked in
    subst (IsPlainKept c.self.inside.geometry c.self.inside.blocks) (sym events)
    (kept-refused_small c.self.inside.geometry c.self.inside.blocks c.self.inside.events.items c.args.caller c.args.need c.args.class
    c.self.invariant
    (kept-geometry c.args.self.now c.self.inside.geometry c.self.inside.events.items c.args.caller c.self.view_is c.requires.caller)
    is_class c.requires.class full)

pub returns-clause-legal : goal.returns-clause-legal
returns-clause-legal c = (invariant_of-self-2 c).legal
