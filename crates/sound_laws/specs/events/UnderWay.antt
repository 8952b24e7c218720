-- The events of a call that is under way.
use Rattle.std.specs.Prelude.{ℕ, suc, Bool, true, false, ◌≡◌, List, [], ◌∷◌}
use Rattle.heap_geometry.specs.declared.geometry.Geometry.{Geometry}
use Rattle.heap_geometry.specs.declared.need.Need.TheVariants.{Small, Large}
use Rattle.heap_geometry.specs.Need.{need_of}
use Rattle.pool_model.specs.declared.event.Event.{Event}
use Rattle.pool_model.specs.declared.event.Event.TheVariants.{Free}
use Rattle.pool_model.specs.Calls.{looks, IsGiving, IsRefusing}
use Rattle.errand_steps.specs.declared.point.Point.{Point}
use Rattle.errand_steps.specs.Begins.{IsHeapBlock}
use Rattle.errand_steps.specs.Calls.{Call, alloc, free, write, read, put, take}
use Rattle.errand_steps.specs.tables.CallStage.{StageOfCall, asking, asking_run, refused, given, freeing, freed, writing, reading, putting, taking}
use Rattle.sound_laws.specs.events.Stages.{stage_of}

-- the events are looks for a class: any number of them; at least one
abbrev pub HasLooked : ℕ → ℕ → Bool → List Event → Type 0
HasLooked caller class false events = (count : ℕ) × (events ≡ looks caller class count)
HasLooked caller class true events = (count : ℕ) × (events ≡ looks caller class (suc count))

-- the call is at this stage, and these are its caller's events since it began; no other stage is one of the call
abbrev pub SoFar : ℕ → Call → StageOfCall → List Event → Type 0
SoFar caller (alloc n) (asking words class looked) events = (words ≡ n) × (need_of n ≡ Small class) × HasLooked caller class looked events
SoFar caller (alloc n) (asking_run words units) events = (words ≡ n) × (need_of n ≡ Large units) × (events ≡ [])
SoFar caller (alloc n) refused events = IsRefusing caller n (need_of n) events
SoFar caller (alloc n) (given place need) events = (need ≡ need_of n) × IsGiving caller n place (need_of n) events
SoFar caller (free p n) (freeing place need) events = (place ≡ p) × (need ≡ n) × (events ≡ [])
SoFar caller (free p n) freed events = events ≡ Free caller p ∷ []
SoFar caller (write p n j v) (writing place i value) events = (place ≡ p) × (i ≡ j) × (value ≡ v) × (events ≡ [])
SoFar caller (read p n j) (reading place i) events = (place ≡ p) × (i ≡ j) × (events ≡ [])
SoFar caller (put p n k) (putting place need shelf) events = (place ≡ p) × (need ≡ n) × (shelf ≡ k) × (events ≡ [])
SoFar caller (take k) (taking shelf) events = (shelf ≡ k) × (events ≡ [])
SoFar caller call stage events = ⊥

-- a caller that began this call stands at this point, and these are its own events since, in their order
abbrev pub IsUnderWay : ℕ → Call → Point → List Event → Type 0
IsUnderWay caller call point events = SoFar caller call (stage_of point) events

-- the block that a call is about is one of this heap's, live or not
abbrev pub IsAboutBlock : Geometry → Call → Type 0
IsAboutBlock g (alloc words) = Unit {0}
IsAboutBlock g (free place need) = IsHeapBlock g place need
IsAboutBlock g (write place need i value) = IsHeapBlock g place need
IsAboutBlock g (read place need i) = IsHeapBlock g place need
IsAboutBlock g (put place need shelf) = IsHeapBlock g place need
IsAboutBlock g (take shelf) = Unit {0}
