use Rattle.std.proofs.Common.{◌≡◌, List, [], ◌∷◌, ◌++◌, Option, Some, refl, sym, ◌∙◌, ap, subst}
use Rattle.std.specs.Option.{IfSome}
use Rattle.heap_geometry.specs.Need.{IsNeed, usable_words}
use Rattle.pool_model.specs.declared.event.Event.{Event}
use Rattle.pool_model.specs.declared.event.Event.TheVariants.{Take, TakeNone}
use Rattle.pool_model.specs.declared.owner.Owner.TheVariants.{Shelf}
use Rattle.pool_model.specs.Pool.{Block, Owns, pool_of}
use Rattle.pool_model.specs.Legal.{IsEmptyShelf}
use Rattle.plain_pool.specs.Plain.{PlainState, pool_in, HasWords}
use Rattle.plain_pool.specs.Stored.{IsPlainKept, stored_at}
use Rattle.plain_pool.proofs.KeptLemmas.{kept-taken, kept-still, kept-formed, kept-geometry, shelf-owns, shelf-empty, gains}
use Rattle.plain_pool.proofs.pool.PlainPool.take.Goals as goal

pub invariant_of-self-in_default : goal.invariant_of-self-in_default
invariant_of-self-in_default c =
    let empty : IsEmptyShelf (pool_of c.self.inside.events.items) c.args.shelf =
    shelf-empty c.self.inside.blocks c.self.inside.events.items c.args.shelf c.self.invariant.stored c.in_default.ensures.empty in
    let events : c.record.new.events.items ≡ c.self.inside.events.items ++ TakeNone c.args.caller c.args.shelf ∷ [] =
    c.record.ensures.items ∙ ap (λ (xs : List Event). xs ++ TakeNone c.args.caller c.args.shelf ∷ []) c.in_ok-reserve.ensures.items in
    subst (IsPlainKept c.self.inside.geometry c.self.inside.blocks) (sym events)
    (kept-still c.self.inside.geometry c.self.inside.blocks c.self.inside.events.items (TakeNone c.args.caller c.args.shelf)
    c.self.invariant (
      (
        kept-geometry c.args.self.now c.self.inside.geometry c.self.inside.events.items c.args.caller c.self.view_is c.requires.caller,
        (c.requires.shelf, empty),
      ),
      tt,
    ) refl)

pub returns-in_default-clause-legal : goal.returns-in_default-clause-legal
returns-in_default-clause-legal c = (invariant_of-self-in_default c).legal

pub returns-in_default-clause-ok : goal.returns-in_default-clause-ok
returns-in_default-clause-ok c =
    let empty : IsEmptyShelf (pool_of c.self.inside.events.items) c.args.shelf =
    shelf-empty c.self.inside.blocks c.self.inside.events.items c.args.shelf c.self.invariant.stored c.in_default.ensures.empty in
    let events : c.record.new.events.items ≡ c.self.inside.events.items ++ TakeNone c.args.caller c.args.shelf ∷ [] =
    c.record.ensures.items ∙ ap (λ (xs : List Event). xs ++ TakeNone c.args.caller c.args.shelf ∷ []) c.in_ok-reserve.ensures.items in (
      subst (λ (s : PlainState). IsEmptyShelf (pool_in s) c.args.shelf) c.self.view_is empty,
      gains c.args.self.now c.self.inside.geometry c.self.inside.events.items c.record.new.events.items
          (TakeNone c.args.caller c.args.shelf ∷ []) c.self.view_is events,
    )

pub words_of-words-requires : goal.words_of-words-requires
words_of-words-requires c =
    let owns : Owns (pool_of c.self.inside.events.items) (Shelf c.args.shelf) c.in-Some.place =
    shelf-owns c.self.inside.blocks c.self.inside.events.items c.args.shelf c.in-Some.place c.self.invariant.stored c.in-Some.ensures.found in
    let here : stored_at c.self.inside.blocks c.in-Some.place ≡ Some owns.0 = c.self.invariant.stored c.in-Some.place ∙ owns.1 in
    subst (λ (o : Option Block). IfSome o (λ block. IsNeed block.need)) (sym here)
    (kept-formed c.self.inside.geometry c.self.inside.blocks c.self.inside.events.items c.self.invariant c.in-Some.place owns.0 owns.1).need

pub invariant_of-self-2 : goal.invariant_of-self-2
invariant_of-self-2 c =
    let owns : Owns (pool_of c.self.inside.events.items) (Shelf c.args.shelf) c.in-Some.place =
    shelf-owns c.self.inside.blocks c.self.inside.events.items c.args.shelf c.in-Some.place c.self.invariant.stored c.in-Some.ensures.found in
    let events : c.record-2.new.events.items ≡ c.self.inside.events.items ++ Take c.args.caller c.args.shelf c.in-Some.place ∷ [] =
    c.record-2.ensures.items
    ∙ ap (λ (xs : List Event). xs ++ Take c.args.caller c.args.shelf c.in-Some.place ∷ []) c.in_ok-reserve.ensures.items in
    subst (IsPlainKept c.self.inside.geometry c.hand_to.new.blocks) (sym events)
    (kept-taken c.self.inside.geometry c.self.inside.blocks c.hand_to.new.blocks c.self.inside.events.items c.args.caller c.args.shelf
    c.in-Some.place c.self.invariant
    (kept-geometry c.args.self.now c.self.inside.geometry c.self.inside.events.items c.args.caller c.self.view_is c.requires.caller)
    (owns, c.requires.shelf) c.hand_to.ensures)

pub returns-clause-ok : goal.returns-clause-ok
returns-clause-ok c =
    let owns : Owns (pool_of c.self.inside.events.items) (Shelf c.args.shelf) c.in-Some.place =
    shelf-owns c.self.inside.blocks c.self.inside.events.items c.args.shelf c.in-Some.place c.self.invariant.stored c.in-Some.ensures.found in
    let here : stored_at c.self.inside.blocks c.in-Some.place ≡ Some owns.0 = c.self.invariant.stored c.in-Some.place ∙ owns.1 in
    let words : c.words_of-words.result ≡ usable_words owns.0.need =
    subst (λ (o : Option Block). IfSome o (λ block. c.words_of-words.result ≡ usable_words block.need)) here c.words_of-words.ensures in
    let has : HasWords (pool_of c.self.inside.events.items) c.in-Some.place c.words_of-words.result = (owns.0, owns.1, words) in
    let events : c.record-2.new.events.items ≡ c.self.inside.events.items ++ Take c.args.caller c.args.shelf c.in-Some.place ∷ [] =
    c.record-2.ensures.items
    ∙ ap (λ (xs : List Event). xs ++ Take c.args.caller c.args.shelf c.in-Some.place ∷ []) c.in_ok-reserve.ensures.items in (
      subst (λ (s : PlainState). Owns (pool_in s) (Shelf c.args.shelf) c.in-Some.place) c.self.view_is owns,
      subst (λ (s : PlainState). HasWords (pool_in s) c.in-Some.place c.words_of-words.result) c.self.view_is has,
      gains c.args.self.now c.self.inside.geometry c.self.inside.events.items c.record-2.new.events.items
          (Take c.args.caller c.args.shelf c.in-Some.place ∷ []) c.self.view_is events,
    )

pub returns-clause-legal : goal.returns-clause-legal
returns-clause-legal c = (invariant_of-self-2 c).legal
