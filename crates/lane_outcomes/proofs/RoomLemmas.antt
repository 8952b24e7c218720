-- Without room in any magazine a lane stands as one without a cache.
use Rattle.std.proofs.Common.{ℕ, zero, suc, false, ◌≡◌, ◌∷◌, ◌++◌, List, [], Option, Some, None, refl, sym, ap, ◌∙◌, subst, inl, inr, arith, append-nil, length, get_or, replicate, map}
use Rattle.std.specs.List.{flat_map}
use Rattle.std.proofs.lemmas.Bool.{cases_lt, le-ltb}
use Rattle.std.proofs.lemmas.List.{get_or-replicate, get_or_past, length-replicate}
use Rattle.heap_geometry.specs.declared.geometry.Geometry.{Geometry}
use Rattle.heap_geometry.specs.declared.limits.TheConstants.{CLASSES}
use Rattle.heap_geometry.specs.declared.need.Need.{Need}
use Rattle.heap_geometry.specs.declared.need.Need.TheVariants.{Small, Large, TooLarge}
use Rattle.heap_geometry.specs.Need.{need_of}
use Rattle.pool_model.specs.declared.event.Event.{Event}
use Rattle.pool_model.specs.Calls.{EventsOf, alloc_given}
use Rattle.pool_model.specs.declared.event.Event.TheVariants.{Free}
use Rattle.trace_text.specs.declared.trace.Op.{Op}
use Rattle.lane_outcomes.specs.declared.registers.HeldBlock.{HeldBlock}
use Rattle.lane_outcomes.specs.declared.outcome.Outcome.{Outcome}
use Rattle.lane_outcomes.specs.Fits.{Fits, LanesFit, OutcomesFit, Walks}
use Rattle.lane_outcomes.specs.Lane.{Position, held_in, position_after, start, writing}
use Rattle.lane_outcomes.specs.Rows.{FitsRow, MayAsk, Setting}
use Rattle.lane_outcomes.specs.Cached.{CachedFits, CachedLanesFit, CachedBy, CachedOutcomesFit, CachedPosition, CachedRow, CachedWalks, IsGivenBy, cached_after, magazines_by, served_with}
use Rattle.lane_outcomes.specs.Magazines.{empty_magazines, emptying, freeing, given_from, is_kept, kept_with, last_in, magazine_of, magazines_freed, magazines_given, served_by}
use Rattle.trace_text.specs.Operations.{register_of}
use Rattle.lane_outcomes.specs.Deeds.{Deed, deed_of}
use Rattle.lane_outcomes.specs.Deeds as deed
use Rattle.lane_outcomes.proofs.SlotRows.{Dealt, Hands, dealt-row, row-hands}

-- empty magazines serve nothing
abbrev pub no_places : List ℕ
no_places = []

pub none-in : (n class : ℕ) → get_or (replicate n no_places) class no_places ≡ no_places
none-in n class =
    elim (cases_lt class n) [
      | inl less ↦ get_or-replicate n class no_places no_places less
      | inr least ↦ get_or_past (replicate n no_places) class no_places (let all = length-replicate n no_places in omega (arith, all, least))
    ]

pub none-served : (need : Need) → served_by empty_magazines need ≡ None
none-served (Small class) = ap last_in (none-in CLASSES class)
none-served (Large units) = refl
none-served TooLarge = refl

none-given : (need : Need) → magazines_given empty_magazines need ≡ empty_magazines
none-given need = ap (λ served. given_from served empty_magazines need) (none-served need)

-- magazines without room keep no block
pub none-kept : (magazines : List (List ℕ)) (need : Need) → is_kept 0 magazines need ≡ false
none-kept magazines (Small class) = le-ltb (length (magazine_of magazines class)) 0 (omega arith)
none-kept magazines (Large units) = refl
none-kept magazines TooLarge = refl

none-freed : (magazines : List (List ℕ)) (held : Option HeldBlock) → magazines_freed 0 magazines held ≡ magazines
none-freed magazines None = refl
none-freed magazines (Some held) = ap (λ keeps. kept_with keeps magazines held.place held.need) (none-kept magazines held.need)

none-left : (n : ℕ) → flat_map (λ magazine. magazine) (replicate n no_places) ≡ []
none-left zero = refl
none-left (suc n) = none-left n

none-emptied : (caller : ℕ) → emptying caller empty_magazines ≡ []
none-emptied caller = ap (map (λ place. Free caller place)) (none-left CLASSES)

-- empty magazines without room stay empty after an operation
magazines-stay : (held : Option HeldBlock) (done : Deed) → magazines_by 0 empty_magazines held done ≡ empty_magazines
magazines-stay held (deed.gives need v words place) = none-given (need_of need)
magazines-stay held deed.frees = none-freed empty_magazines held
magazines-stay held (deed.replaces need words place) = none-freed (magazines_given empty_magazines (need_of need)) held ∙ none-given (need_of need)
magazines-stay held done = refl

none-for : (done : Deed) → served_with empty_magazines done ≡ None
none-for (deed.gives need v words place) = none-served (need_of need)
none-for (deed.replaces need words place) = none-served (need_of need)
none-for done = refl

-- a lane at this position whose magazines are empty
abbrev pub plain : Position → CachedPosition
plain position = record { base = position; magazines = empty_magazines; hits = 0 }

plain-after :
    (position : Position) (operation : Op) (result : Outcome) (piece : List Event)
    → cached_after 0 (plain position) operation result piece ≡ plain (position_after position operation result piece)
plain-after position operation result piece =
    let none = none-for (deed_of operation result) in
    let stay = magazines-stay (held_in position.registers (register_of operation)) (deed_of operation result) in
    rw none (rw stay refl)

pub given-plain :
    (setting : Setting) (position : Position) (need place : ℕ) (calls : List Event)
    → IsGivenBy (served_by empty_magazines (need_of need)) setting (plain position) need place calls
    → MayAsk position need × EventsOf setting.caller (alloc_given need place) calls
given-plain setting position need place calls is = subst (λ served. IsGivenBy served setting (plain position) need place calls) (none-served (need_of need)) is

given-room :
    (setting : Setting) (position : Position) (need place : ℕ) (calls : List Event) → MayAsk position need → EventsOf setting.caller (alloc_given need place) calls
    → IsGivenBy (served_by empty_magazines (need_of need)) setting (plain position) need place calls
given-room setting position need place calls may events =
    subst (λ served. IsGivenBy served setting (plain position) need place calls) (sym (none-served (need_of need))) (may, events)

-- a row of one is a row of the other
plain-by :
    (setting : Setting) (position : Position) (operation : Op) (result : Outcome) (piece : List Event) (done : Deed)
    → (Dealt setting position (held_in position.registers (register_of operation)) done piece → FitsRow setting position operation result piece)
    → CachedBy setting 0 (plain position) operation result piece done → FitsRow setting position operation result piece
plain-by setting position operation result piece (deed.gives need v words place) back (empty, words_are, calls, given, is) =
    let may = given-plain setting position need place calls given in back (empty, may.0, words_are, calls, may.1, is)
plain-by setting position operation result piece (deed.replaces need words place) back (held, full, differ, words_are, calls, given, value, copy, is) =
    let may = given-plain setting position need place calls given in
    let gone = none-kept (magazines_given empty_magazines (need_of need)) held.need in
    back (
      held,
      full,
      differ,
      may.0,
      words_are,
      calls,
      may.1,
      value,
      copy,
      is ∙ ap (λ keeps. calls ++ writing setting.caller place words value ++ freeing setting.caller keeps held.place) gone,
    )
plain-by setting position operation result piece deed.frees back (held, full, is) =
    back (held, full, is ∙ ap (λ keeps. freeing setting.caller keeps held.place) (none-kept empty_magazines held.need))
plain-by setting position operation result piece (deed.refuses need) back row = row.1
plain-by setting position operation result piece (deed.spends need) back row = row.1
plain-by setting position operation result piece done back row = row

room-by :
    (setting : Setting) (position : Position) (operation : Op) (result : Outcome) (piece : List Event) (done : Deed)
    → Hands setting position (held_in position.registers (register_of operation)) done piece → FitsRow setting position operation result piece
    → CachedBy setting 0 (plain position) operation result piece done
room-by setting position operation result piece (deed.gives need v words place) (empty, may, words_are, calls, events, is) row =
    (empty, words_are, calls, given-room setting position need place calls may events, is)
room-by setting position operation result piece (deed.replaces need words place) (held, full, differ, may, words_are, calls, events, value, copy, is) row = (
  held,
  full,
  differ,
  words_are,
  calls,
  given-room setting position need place calls may events,
  value,
  copy,
  is
      ∙ ap (λ keeps. calls ++ writing setting.caller place words value ++ freeing setting.caller keeps held.place)
      (sym (none-kept (magazines_given empty_magazines (need_of need)) held.need)),
)
room-by setting position operation result piece deed.frees (held, full, is) row =
    (held, full, is ∙ ap (λ keeps. freeing setting.caller keeps held.place) (sym (none-kept empty_magazines held.need)))
room-by setting position operation result piece (deed.refuses need) hands row = (none-served (need_of need), row)
room-by setting position operation result piece (deed.spends need) hands row = (none-served (need_of need), row)
room-by setting position operation result piece done hands row = row

pub row-room :
    (setting : Setting) (position : Position) (operation : Op) (result : Outcome) (piece : List Event) → FitsRow setting position operation result piece
    → CachedRow setting 0 (plain position) operation result piece
row-room setting position operation result piece row =
    room-by setting position operation result piece (deed_of operation result)
    (row-hands setting position piece operation (held_in position.registers (register_of operation)) result row) row

pub walks-plain :
    (setting : Setting) (from : Position) (to : CachedPosition) (operations : List Op) (results : List Outcome)
    → CachedWalks setting 0 (plain from) operations results to → (end : Position) × (to ≡ plain end) × Walks setting from operations results end
walks-plain setting from to [] [] walks = (from, walks, refl)
walks-plain setting from to (operation ∷ operations) (result ∷ results) (piece, row, walks) =
    let rest =
    walks-plain setting (position_after from operation result piece) to operations results
    (subst (λ p. CachedWalks setting 0 p operations results to) (plain-after from operation result piece) walks) in (
      rest.0,
      rest.1,
      (
        piece,
        plain-by setting from operation result piece (deed_of operation result)
            (dealt-row setting from piece operation (held_in from.registers (register_of operation)) result) row,
        rest.2,
      ),
    )
walks-plain setting from to operations results walks = absurd walks

pub fits-plain :
    (setting : Setting) (operations : List Op) (results : List Outcome) (hits : ℕ) → CachedFits setting 0 operations results hits
    → Fits setting operations results × (hits ≡ 0)
fits-plain setting operations results hits fits =
    let it = walks-plain setting start fits.end operations results fits.walks in (
      record {
        end = it.0;
        walks = it.2;
        all_used =
            fits.all_used
            ∙ (ap (λ (p : CachedPosition). p.base.done ++ emptying setting.caller p.magazines) it.1
            ∙ (ap (λ xs. it.0.done ++ xs) (none-emptied setting.caller) ∙ append-nil it.0.done));
      },
      fits.hits_are ∙ ap (λ (p : CachedPosition). p.hits) it.1,
    )

lanes-plain :
    (g : Geometry) (history : List Event) (lost lane : ℕ) (lanes : List (List Op)) (outcomes : List (List Outcome)) (hits : ℕ)
    → CachedLanesFit g history lost 0 lane lanes outcomes hits → LanesFit g history lost lane lanes outcomes × (hits ≡ 0)
lanes-plain g history lost lane [] [] hits fit = (tt, fit)
lanes-plain g history lost lane (operations ∷ lanes) (results ∷ outcomes) hits (these, others, all, one, more) =
    let first = fits-plain (record { caller = lane; turn_limit = g.turn_limit; history = history; lost = lost }) operations results these one in
    let rest = lanes-plain g history lost (suc lane) lanes outcomes others more in
    ((first.0, rest.0), omega (arith, all, first.1, rest.1))
lanes-plain g history lost lane lanes outcomes hits fit = absurd fit

pub outcomes-plain :
    (g : Geometry) (history : List Event) (lost : ℕ) (lanes : List (List Op)) (outcomes : List (List Outcome)) (hits : ℕ)
    → CachedOutcomesFit g history lost 0 lanes outcomes hits → OutcomesFit g history lost lanes outcomes × (hits ≡ 0)
outcomes-plain g history lost lanes outcomes hits fit =
    let all = lanes-plain g history lost 0 lanes outcomes hits fit.lanes_fit in
    (record { lanes_fit = all.0; callers = fit.callers }, all.1)

-- and the other way round: a lane without a cache stands as one without room
pub walks-room :
    (setting : Setting) (from to : Position) (operations : List Op) (results : List Outcome) → Walks setting from operations results to
    → CachedWalks setting 0 (plain from) operations results (plain to)
walks-room setting from to [] [] walks = ap plain walks
walks-room setting from to (operation ∷ operations) (result ∷ results) (piece, row, walks) = (
  piece,
  row-room setting from operation result piece row,
  subst (λ p. CachedWalks setting 0 p operations results (plain to)) (sym (plain-after from operation result piece))
      (walks-room setting (position_after from operation result piece) to operations results walks),
)
walks-room setting from to operations results walks = absurd walks

pub fits-room :
    (setting : Setting) (operations : List Op) (results : List Outcome) → Fits setting operations results → CachedFits setting 0 operations results 0
fits-room setting operations results fits = record {
  end = plain fits.end;
  walks = walks-room setting start fits.end operations results fits.walks;
  all_used = fits.all_used ∙ sym (append-nil fits.end.done) ∙ ap (λ xs. fits.end.done ++ xs) (sym (none-emptied setting.caller));
  hits_are = refl;
}

pub lanes-room :
    (g : Geometry) (history : List Event) (lost lane : ℕ) (lanes : List (List Op)) (outcomes : List (List Outcome)) → LanesFit g history lost lane lanes outcomes
    → CachedLanesFit g history lost 0 lane lanes outcomes 0
lanes-room g history lost lane [] [] fit = refl
lanes-room g history lost lane (operations ∷ lanes) (results ∷ outcomes) (one, more) = (
  0,
  0,
  refl,
  fits-room (record { caller = lane; turn_limit = g.turn_limit; history = history; lost = lost }) operations results one,
  lanes-room g history lost (suc lane) lanes outcomes more,
)
lanes-room g history lost lane lanes outcomes fit = absurd fit

pub outcomes-room :
    (g : Geometry) (history : List Event) (lost : ℕ) (lanes : List (List Op)) (outcomes : List (List Outcome)) → OutcomesFit g history lost lanes outcomes
    → CachedOutcomesFit g history lost 0 lanes outcomes 0
outcomes-room g history lost lanes outcomes fit = record { lanes_fit = lanes-room g history lost 0 lanes outcomes fit.lanes_fit; callers = fit.callers }
