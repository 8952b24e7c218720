-- Histories of events, and the part of one caller in them.
use Rattle.std.specs.Prelude.{ℕ, ◌==◌, ◌≡◌, List, [], ◌∷◌, ◌++◌, filter}
use Rattle.pool_model.specs.declared.event.Event.{Event}
use Rattle.pool_model.specs.declared.event.Event.TheVariants.{Alloc, Looked, Refuse, Free, Write, Put, Take, TakeNone}

-- the caller that makes an event
abbrev pub caller_of : Event → ℕ
caller_of (Alloc caller need place) = caller
caller_of (Looked caller class) = caller
caller_of (Refuse caller need) = caller
caller_of (Free caller place) = caller
caller_of (Write caller place i v) = caller
caller_of (Put caller place shelf) = caller
caller_of (Take caller shelf place) = caller
caller_of (TakeNone caller shelf) = caller

-- a caller's events, in their order
abbrev pub own : ℕ → List Event → List Event
own caller history = filter (λ event. caller_of event == caller) history

-- the longer list begins with the shorter one
abbrev pub Begins : List Event → List Event → Type 0
Begins shorter longer = (rest : List Event) × (longer ≡ shorter ++ rest)

-- the last event of the list is this one
abbrev pub EndsWith : List Event → Event → Type 0
EndsWith events event = (before : List Event) × (events ≡ before ++ event ∷ [])

-- each event of a history stands in a relation to the events before it
abbrev pub EachAfter : (List Event → Event → Type 0) → List Event → Type 0
EachAfter R history =
    (before rest : List Event) (event : Event) → history ≡ before ++ event ∷ rest → R before event
