use Rattle.std.proofs.Common.{◌≡◌, List, [], ◌∷◌, ◌++◌, sym, ◌∙◌, ap, subst}
use Rattle.pool_model.specs.declared.event.Event.{Event}
use Rattle.pool_model.specs.declared.event.Event.TheVariants.{Free}
use Rattle.pool_model.specs.declared.owner.Owner.TheVariants.{Caller}
use Rattle.pool_model.specs.Pool.{Owns, pool_of}
use Rattle.plain_pool.specs.Plain.{PlainState, pool_in}
use Rattle.plain_pool.specs.Stored.{IsPlainKept}
use Rattle.plain_pool.proofs.KeptLemmas.{kept-freed}
use Rattle.plain_pool.proofs.pool.PlainPool.free.Goals as goal

pub invariant_of-self-2 : goal.invariant_of-self-2
invariant_of-self-2 c =
    let owns : Owns (pool_of c.self.inside.events.items) (Caller c.args.caller) c.args.place =
    subst (λ (s : PlainState). Owns (pool_in s) (Caller c.args.caller) c.args.place) (sym c.self.view_is) c.requires in
    let events : c.record.new.events.items ≡ c.self.inside.events.items ++ Free c.args.caller c.args.place ∷ [] =
    c.record.ensures.items ∙ ap (λ (xs : List Event). xs ++ Free c.args.caller c.args.place ∷ []) c.in_ok-reserve.ensures.items in
    subst (IsPlainKept c.self.inside.geometry c.remove.new.blocks) (sym events)
    (kept-freed c.self.inside.geometry c.self.inside.blocks c.remove.new.blocks c.self.inside.events.items c.args.caller c.args.place
    c.self.invariant owns c.remove.ensures)

pub returns-clause-legal : goal.returns-clause-legal
returns-clause-legal c = (invariant_of-self-2 c).legal
