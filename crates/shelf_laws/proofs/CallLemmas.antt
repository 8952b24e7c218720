-- Calls that put no block on a shelf and take none.
use Rattle.std.proofs.Common.{ℕ, suc, ◌≡◌, List, [], ◌∷◌, ◌++◌, sym, subst}
use Rattle.std.specs.Prelude.{All}
use Rattle.std.proofs.lemmas.List.Elements.{All-append, All-cons, All-head, All-nil, All-replicate, All-tail}
use Rattle.heap_geometry.specs.declared.need.Need.{Need}
use Rattle.heap_geometry.specs.declared.need.Need.TheVariants.{Small, Large, TooLarge}
use Rattle.heap_geometry.specs.Need.{need_of}
use Rattle.pool_model.specs.declared.event.Event.{Event}
use Rattle.pool_model.specs.declared.event.Event.TheVariants.{Alloc, Looked, Refuse, Free, Write, TakeNone}
use Rattle.pool_model.specs.Calls.{Ended, EventsOf, EventsSoFar, IsGiving, IsRefusing, IsSpending, looks}
use Rattle.pool_model.specs.Calls.Ended.{alloc_given, alloc_refused, alloc_spent, alloc_too_large, freed, read, wrote, put_done, put_full, take_got, take_empty, take_missed}
use Rattle.shelf_laws.specs.Quiet.{HandsNothingOver, IsOutside}

-- no event of the list puts on a shelf of the pipe or takes from one
abbrev pub AreOutside : ℕ → ℕ → List Event → Type 0
AreOutside senders shelves events = All (IsOutside senders shelves) events

one : (senders shelves : ℕ) (event : Event) → IsOutside senders shelves event → AreOutside senders shelves (event ∷ [])
one senders shelves event out = All-cons (IsOutside senders shelves) event [] out (All-nil (IsOutside senders shelves))

looks-outside : (senders shelves caller class count : ℕ) → AreOutside senders shelves (looks caller class count)
looks-outside senders shelves caller class count = All-replicate (IsOutside senders shelves) count (Looked caller class) tt

looks-then :
    (senders shelves caller class count : ℕ) (event : Event) → IsOutside senders shelves event
    → AreOutside senders shelves (looks caller class count ++ event ∷ [])
looks-then senders shelves caller class count event out =
    All-append (IsOutside senders shelves) (looks caller class count) (event ∷ []) (looks-outside senders shelves caller class count)
    (one senders shelves event out)

giving-outside :
    (senders shelves caller need place : ℕ) (n : Need) (events : List Event) → IsGiving caller need place n events
    → AreOutside senders shelves events
giving-outside senders shelves caller need place (Small class) events is =
    subst (AreOutside senders shelves) (sym is.1) (looks-then senders shelves caller class is.0 (Alloc caller need place) tt)
giving-outside senders shelves caller need place (Large units) events is =
    subst (AreOutside senders shelves) (sym is) (one senders shelves (Alloc caller need place) tt)
giving-outside senders shelves caller need place TooLarge events is = absurd is

refusing-outside :
    (senders shelves caller need : ℕ) (n : Need) (events : List Event) → IsRefusing caller need n events → AreOutside senders shelves events
refusing-outside senders shelves caller need (Small class) events is =
    subst (AreOutside senders shelves) (sym is.1) (looks-then senders shelves caller class (suc is.0) (Refuse caller need) tt)
refusing-outside senders shelves caller need (Large units) events is =
    subst (AreOutside senders shelves) (sym is) (one senders shelves (Refuse caller need) tt)
refusing-outside senders shelves caller need TooLarge events is = absurd is

spending-outside :
    (senders shelves caller : ℕ) (n : Need) (events : List Event) → IsSpending caller n events → AreOutside senders shelves events
spending-outside senders shelves caller (Small class) events is =
    subst (AreOutside senders shelves) (sym is.1) (looks-outside senders shelves caller class is.0)
spending-outside senders shelves caller (Large units) events is = absurd is
spending-outside senders shelves caller TooLarge events is = absurd is

nothing-outside : (senders shelves : ℕ) (events : List Event) → events ≡ [] → AreOutside senders shelves events
nothing-outside senders shelves events is = subst (AreOutside senders shelves) (sym is) (All-nil (IsOutside senders shelves))

one-outside :
    (senders shelves : ℕ) (events : List Event) (event : Event) → IsOutside senders shelves event → events ≡ event ∷ []
    → AreOutside senders shelves events
one-outside senders shelves events event out is = subst (AreOutside senders shelves) (sym is) (one senders shelves event out)

pub ended-outside :
    (senders shelves caller : ℕ) (ended : Ended) (events : List Event) → HandsNothingOver ended → EventsOf caller ended events
    → AreOutside senders shelves events
ended-outside senders shelves caller (alloc_given need place) events hands is =
    giving-outside senders shelves caller need place (need_of need) events is
ended-outside senders shelves caller (alloc_refused need) events hands is =
    refusing-outside senders shelves caller need (need_of need) events is
ended-outside senders shelves caller (alloc_spent need) events hands is = spending-outside senders shelves caller (need_of need) events is
ended-outside senders shelves caller alloc_too_large events hands is = nothing-outside senders shelves events is
ended-outside senders shelves caller (freed place) events hands is = one-outside senders shelves events (Free caller place) tt is
ended-outside senders shelves caller read events hands is = nothing-outside senders shelves events is
ended-outside senders shelves caller (wrote place i v) events hands is = one-outside senders shelves events (Write caller place i v) tt is
ended-outside senders shelves caller (put_done place shelf) events hands is = absurd hands
ended-outside senders shelves caller put_full events hands is = nothing-outside senders shelves events is
ended-outside senders shelves caller (take_got shelf place) events hands is = absurd hands
ended-outside senders shelves caller (take_empty shelf) events hands is = one-outside senders shelves events (TakeNone caller shelf) tt is
ended-outside senders shelves caller take_missed events hands is = nothing-outside senders shelves events is

-- a beginning of a list has what the list has
All-beginning : (P : Event → Type 0) (events rest : List Event) → All P (events ++ rest) → All P events
All-beginning P [] rest all = All-nil P
All-beginning P (event ∷ events) rest all =
    All-cons P event events (All-head P event (events ++ rest) all) (All-beginning P events rest (All-tail P event (events ++ rest) all))

pub so_far-outside :
    (senders shelves caller : ℕ) (ended : Ended) (events : List Event) → HandsNothingOver ended → EventsSoFar caller ended events
    → AreOutside senders shelves events
so_far-outside senders shelves caller ended events hands so_far =
    All-beginning (IsOutside senders shelves) events so_far.2.0
    (subst (AreOutside senders shelves) so_far.2.1 (ended-outside senders shelves caller ended so_far.0 hands so_far.1))
