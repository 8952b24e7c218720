use Rattle.std.proofs.Common.{◌≡◌, List, [], ◌∷◌, ◌++◌, Some, sym, ◌∙◌, ap, subst}
use Rattle.heap_geometry.specs.Need.{need_of}
use Rattle.pool_model.specs.declared.event.Event.{Event}
use Rattle.pool_model.specs.declared.event.Event.TheVariants.{Alloc}
use Rattle.pool_model.specs.Pool.{Block, fresh_block, pool_of}
use Rattle.pool_model.specs.Legal.{IsFree}
use Rattle.plain_pool.specs.Plain.{PlainState, IsChosen, pool_in}
use Rattle.plain_pool.specs.Stored.{IsPlainKept, Replaces, block_of}
use Rattle.plain_pool.proofs.KeptLemmas.{kept-given, kept-geometry, chosen-free, fresh-is}
use Rattle.plain_pool.proofs.pool.PlainPool.give.Goals as goal

pub invariant_of-self-2 : goal.invariant_of-self-2
invariant_of-self-2 c =
    let chosen : IsChosen c.self.inside.geometry (pool_of c.self.inside.events.items) (need_of c.args.need) c.args.place =
    subst (λ (s : PlainState). IsChosen s.geometry (pool_in s) (need_of c.args.need) c.args.place) (sym c.self.view_is) c.requires.chosen in
    let free : IsFree c.self.inside.geometry (pool_of c.self.inside.events.items) (need_of c.args.need) c.args.place =
    chosen-free c.self.inside.geometry (pool_of c.self.inside.events.items) (need_of c.args.need) c.args.place chosen in
    let fresh : block_of c.args.place c.in_ok-block.block ≡ fresh_block c.args.caller c.args.need c.args.place =
    fresh-is c.args.caller c.args.need c.args.place c.class_of-serves.result c.in_ok-block.block c.class_of-serves.ensures.value
    c.in_ok-block.ensures.need c.in_ok-block.ensures.owner c.in_ok-block.ensures.words in
    let replaces : Replaces c.self.inside.blocks c.store.new.blocks c.args.place (Some (fresh_block c.args.caller c.args.need c.args.place)) =
    subst (λ (b : Block). Replaces c.self.inside.blocks c.store.new.blocks c.args.place (Some b)) fresh c.in_ok-store.ensures.ok in
    let events : c.record.new.events.items ≡ c.self.inside.events.items ++ Alloc c.args.caller c.args.need c.args.place ∷ [] =
    c.record.ensures.items ∙ ap (λ (xs : List Event). xs ++ Alloc c.args.caller c.args.need c.args.place ∷ []) c.in_ok-reserve.ensures.items in
    subst (IsPlainKept c.self.inside.geometry c.store.new.blocks) (sym events)
    (kept-given c.self.inside.geometry c.self.inside.blocks c.store.new.blocks c.self.inside.events.items c.args.caller c.args.need
    c.args.place c.self.invariant
    (kept-geometry c.args.self.now c.self.inside.geometry c.self.inside.events.items c.args.caller c.self.view_is c.requires.caller) free
    replaces)

pub returns-clause-legal : goal.returns-clause-legal
returns-clause-legal c = (invariant_of-self-2 c).legal
