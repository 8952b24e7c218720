use Rattle.std.proofs.Common.{ℕ, ◌≡◌, ◌<◌, List, [], ◌∷◌, ◌++◌, length, Some, Option, sym, ◌∙◌, ap, subst}
use Rattle.std.specs.Option.{IfSome}
use Rattle.pool_model.specs.declared.event.Event.{Event}
use Rattle.pool_model.specs.declared.event.Event.TheVariants.{Write}
use Rattle.pool_model.specs.Pool.{Block, pool_of}
use Rattle.plain_pool.specs.Plain.{PlainState, OwnsWord, pool_in}
use Rattle.plain_pool.specs.Stored.{IsPlainKept, stored_at}
use Rattle.plain_pool.proofs.KeptLemmas.{kept-written, kept-formed}
use Rattle.plain_pool.proofs.pool.PlainPool.write.Goals as goal

pub write_word-requires : goal.write_word-requires
write_word-requires c =
    let owns : OwnsWord (pool_of c.self.inside.events.items) c.args.caller c.args.place c.args.i =
    subst (λ (s : PlainState). OwnsWord (pool_in s) c.args.caller c.args.place c.args.i) (sym c.self.view_is) c.requires in
    let here : stored_at c.self.inside.blocks c.args.place ≡ Some owns.0 = c.self.invariant.stored c.args.place ∙ owns.1 in
    let full = (kept-formed c.self.inside.geometry c.self.inside.blocks c.self.inside.events.items c.self.invariant c.args.place owns.0 owns.1).full in
    subst (λ (o : Option Block). IfSome o (λ block. c.args.i < length block.contents)) (sym here)
    (subst (λ (n : ℕ). c.args.i < n) (sym full) owns.3)

pub invariant_of-self-2 : goal.invariant_of-self-2
invariant_of-self-2 c =
    let owns : OwnsWord (pool_of c.self.inside.events.items) c.args.caller c.args.place c.args.i =
    subst (λ (s : PlainState). OwnsWord (pool_in s) c.args.caller c.args.place c.args.i) (sym c.self.view_is) c.requires in
    let events : c.record.new.events.items ≡ c.self.inside.events.items ++ Write c.args.caller c.args.place c.args.i c.args.v ∷ [] =
    c.record.ensures.items
    ∙ ap (λ (xs : List Event). xs ++ Write c.args.caller c.args.place c.args.i c.args.v ∷ []) c.in_ok-reserve.ensures.items in
    subst (IsPlainKept c.self.inside.geometry c.write_word.new.blocks) (sym events)
    (kept-written c.self.inside.geometry c.self.inside.blocks c.write_word.new.blocks c.self.inside.events.items c.args.caller c.args.place
    c.args.i c.args.v c.self.invariant owns c.write_word.ensures)

pub returns-clause-legal : goal.returns-clause-legal
returns-clause-legal c = (invariant_of-self-2 c).legal
