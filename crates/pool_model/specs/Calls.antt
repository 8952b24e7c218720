-- Which events a call adds.
use Rattle.std.specs.Prelude.{ℕ, suc, ◌≡◌, List, [], ◌∷◌, ◌++◌, replicate}
use Rattle.heap_geometry.specs.declared.need.Need.{Need}
use Rattle.heap_geometry.specs.declared.need.Need.TheVariants.{Small, Large, TooLarge}
use Rattle.heap_geometry.specs.Need.{need_of}
use Rattle.pool_model.specs.declared.event.Event.{Event}
use Rattle.pool_model.specs.declared.event.Event.TheVariants.{Alloc, Looked, Refuse, Free, Write, Put, Take, TakeNone}
use Rattle.pool_model.specs.Histories.{Begins}

-- a call that has ended, with its answer
pub data Ended : Type 0 where
  alloc_given : (need place : ℕ) → Ended
  alloc_refused : (need : ℕ) → Ended
  alloc_spent : (need : ℕ) → Ended
  alloc_too_large : Ended
  freed : (place : ℕ) → Ended
  read : Ended
  wrote : (place i v : ℕ) → Ended
  put_done : (place shelf : ℕ) → Ended
  put_full : Ended
  take_got : (shelf place : ℕ) → Ended
  take_empty : (shelf : ℕ) → Ended
  take_missed : Ended

-- so many looks of a caller for a class
abbrev pub looks : ℕ → ℕ → ℕ → List Event
looks caller class count = replicate count (Looked caller class)

-- an allocation that is given a block looks for its class any number of times before; a large one never does
abbrev pub IsGiving : ℕ → ℕ → ℕ → Need → List Event → Type 0
IsGiving caller need place (Small class) events = (count : ℕ) × (events ≡ looks caller class count ++ Alloc caller need place ∷ [])
IsGiving caller need place (Large units) events = events ≡ Alloc caller need place ∷ []
IsGiving caller need place TooLarge events = ⊥

-- an allocation that is refused has looked at least once; a large one never does
abbrev pub IsRefusing : ℕ → ℕ → Need → List Event → Type 0
IsRefusing caller need (Small class) events = (count : ℕ) × (events ≡ looks caller class (suc count) ++ Refuse caller need ∷ [])
IsRefusing caller need (Large units) events = events ≡ Refuse caller need ∷ []
IsRefusing caller need TooLarge events = ⊥

-- an allocation whose caller has no turn left has looked any number of times; a large one takes no turn
abbrev pub IsSpending : ℕ → Need → List Event → Type 0
IsSpending caller (Small class) events = (count : ℕ) × (events ≡ looks caller class count)
IsSpending caller (Large units) events = ⊥
IsSpending caller TooLarge events = ⊥

-- the list has the events of a call of the caller that has ended with this answer, in their order
abbrev pub EventsOf : ℕ → Ended → List Event → Type 0
EventsOf caller (alloc_given need place) events = IsGiving caller need place (need_of need) events
EventsOf caller (alloc_refused need) events = IsRefusing caller need (need_of need) events
EventsOf caller (alloc_spent need) events = IsSpending caller (need_of need) events
EventsOf caller alloc_too_large events = events ≡ []
EventsOf caller (freed place) events = events ≡ Free caller place ∷ []
EventsOf caller read events = events ≡ []
EventsOf caller (wrote place i v) events = events ≡ Write caller place i v ∷ []
EventsOf caller (put_done place shelf) events = events ≡ Put caller place shelf ∷ []
EventsOf caller put_full events = events ≡ []
EventsOf caller (take_got shelf place) events = events ≡ Take caller shelf place ∷ []
EventsOf caller (take_empty shelf) events = events ≡ TakeNone caller shelf ∷ []
EventsOf caller take_missed events = events ≡ []

-- the list has the events so far of a call of the caller that can end with this answer
abbrev pub EventsSoFar : ℕ → Ended → List Event → Type 0
EventsSoFar caller ended events = (all : List Event) × EventsOf caller ended all × Begins events all
