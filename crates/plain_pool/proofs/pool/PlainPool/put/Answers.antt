use Rattle.std.proofs.Common.{◌≡◌, false, true, List, [], ◌∷◌, ◌++◌, refl, sym, ◌∙◌, ap, subst}
use Rattle.std.specs.Option.{is_some}
use Rattle.pool_model.specs.declared.event.Event.{Event}
use Rattle.pool_model.specs.declared.event.Event.TheVariants.{Put}
use Rattle.pool_model.specs.declared.owner.Owner.TheVariants.{Caller, Shelf}
use Rattle.pool_model.specs.Pool.{Owns, pool_of}
use Rattle.pool_model.specs.Legal.{IsEmptyShelf, IsLegal}
use Rattle.plain_pool.specs.Plain.{PlainState, pool_in}
use Rattle.plain_pool.specs.Stored.{IsPlainKept}
use Rattle.plain_pool.proofs.KeptLemmas.{kept-put, some-when, none-when, shelf-owns, shelf-empty, gains}
use Rattle.plain_pool.proofs.pool.PlainPool.put.Goals as goal

pub returns-then-is_some-clause-ok : goal.returns-then-is_some-clause-ok
returns-then-is_some-clause-ok c =
    let full : is_some c.place_on_shelf.result ≡ true = sym c.is_some.ensures ∙ c.if-is_some.true in
    let found = some-when c.place_on_shelf.result _ full c.place_on_shelf.ensures.found in
    let owns : Owns (pool_of c.self.inside.events.items) (Shelf c.args.shelf) found.0 =
    shelf-owns c.self.inside.blocks c.self.inside.events.items c.args.shelf found.0 c.self.invariant.stored found.1 in
    ((found.0, subst (λ (s : PlainState). Owns (pool_in s) (Shelf c.args.shelf) found.0) c.self.view_is owns), refl)

pub returns-then-is_some-clause-legal : goal.returns-then-is_some-clause-legal
returns-then-is_some-clause-legal c =
    subst (λ (s : PlainState). IsLegal s.geometry s.events) c.self.view_is c.self.invariant.legal

pub invariant_of-self-2 : goal.invariant_of-self-2
invariant_of-self-2 c =
    let owns : Owns (pool_of c.self.inside.events.items) (Caller c.args.caller) c.args.place =
    subst (λ (s : PlainState). Owns (pool_in s) (Caller c.args.caller) c.args.place) (sym c.self.view_is) c.requires.owned in
    let none : is_some c.place_on_shelf.result ≡ false = sym c.is_some.ensures ∙ c.if-is_some.false in
    let empty : IsEmptyShelf (pool_of c.self.inside.events.items) c.args.shelf =
    shelf-empty c.self.inside.blocks c.self.inside.events.items c.args.shelf c.self.invariant.stored
    (none-when c.place_on_shelf.result _ none c.place_on_shelf.ensures.empty) in
    let events : c.record.new.events.items ≡ c.self.inside.events.items ++ Put c.args.caller c.args.place c.args.shelf ∷ [] =
    c.record.ensures.items ∙ ap (λ (xs : List Event). xs ++ Put c.args.caller c.args.place c.args.shelf ∷ []) c.in_ok-reserve.ensures.items in
    subst (IsPlainKept c.self.inside.geometry c.hand_to.new.blocks) (sym events)
    (kept-put c.self.inside.geometry c.self.inside.blocks c.hand_to.new.blocks c.self.inside.events.items c.args.caller c.args.place
    c.args.shelf c.self.invariant owns (owns, c.requires.shelf, empty) c.hand_to.ensures)

pub returns-clause-ok : goal.returns-clause-ok
returns-clause-ok c =
    let none : is_some c.place_on_shelf.result ≡ false = sym c.is_some.ensures ∙ c.if-is_some.false in
    let empty : IsEmptyShelf (pool_of c.self.inside.events.items) c.args.shelf =
    shelf-empty c.self.inside.blocks c.self.inside.events.items c.args.shelf c.self.invariant.stored
    (none-when c.place_on_shelf.result _ none c.place_on_shelf.ensures.empty) in
    let events : c.record.new.events.items ≡ c.self.inside.events.items ++ Put c.args.caller c.args.place c.args.shelf ∷ [] =
    c.record.ensures.items ∙ ap (λ (xs : List Event). xs ++ Put c.args.caller c.args.place c.args.shelf ∷ []) c.in_ok-reserve.ensures.items in (
      subst (λ (s : PlainState). IsEmptyShelf (pool_in s) c.args.shelf) c.self.view_is empty,
      gains c.args.self.now c.self.inside.geometry c.self.inside.events.items c.record.new.events.items
          (Put c.args.caller c.args.place c.args.shelf ∷ []) c.self.view_is events,
    )

pub returns-clause-legal : goal.returns-clause-legal
returns-clause-legal c = (invariant_of-self-2 c).legal
