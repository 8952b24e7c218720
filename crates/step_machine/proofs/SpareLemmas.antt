-- Which blocks the events of a call leave where they are.
use Rattle.std.proofs.Common.{ℕ, zero, suc, Bool, true, false, ◌≡◌, ◌≢◌, ◌∷◌, ◌++◌, List, [], sym, subst}
use Rattle.heap_geometry.specs.declared.need.Need.{Need}
use Rattle.heap_geometry.specs.declared.need.Need.TheVariants.{Small, Large, TooLarge}
use Rattle.heap_geometry.specs.Need.{need_of}
use Rattle.pool_model.specs.declared.event.Event.{Event}
use Rattle.pool_model.specs.declared.event.Event.TheVariants.{Alloc, Refuse, Free, Write, Put, Take, TakeNone}
use Rattle.pool_model.specs.Calls.{Ended, EventsOf, IsGiving, IsRefusing, IsSpending, looks}
use Rattle.pool_model.specs.Calls as ended
use Rattle.errand_steps.specs.Calls.{Call, alloc, free, write, read, put, take}
use Rattle.errand_steps.specs.tables.CallStage.{StageOfCall, asking, asking_run, refused, given, freeing, freed, writing, reading, putting, taking}
use Rattle.sound_laws.specs.events.UnderWay.{SoFar, HasLooked}
use Rattle.step_machine.specs.Keeping.{AllSpare, LeavesPlace, LeavesAtEnd}

spare-looks : (place caller class count : ℕ) (events : List Event) → AllSpare place events → AllSpare place (looks caller class count ++ events)
spare-looks place caller class zero events h = h
spare-looks place caller class (suc count) events h = (tt, spare-looks place caller class count events h)

spare-as : (place : ℕ) (events other : List Event) → events ≡ other → AllSpare place other → AllSpare place events
spare-as place events other same h = subst (AllSpare place) (sym same) h

only-looks : (place caller class count : ℕ) → AllSpare place (looks caller class count)
only-looks place caller class zero = tt
only-looks place caller class (suc count) = (tt, only-looks place caller class count)

spare-looked : (place caller class : ℕ) (looked : Bool) (events : List Event) → HasLooked caller class looked events → AllSpare place events
spare-looked place caller class false events h = spare-as place events _ h.1 (only-looks place caller class h.0)
spare-looked place caller class true events h = spare-as place events _ h.1 (only-looks place caller class (suc h.0))

spare-giving : (place caller need at : ℕ) (n : Need) (events : List Event) → IsGiving caller need at n events → AllSpare place events
spare-giving place caller need at (Small class) events h =
    spare-as place events _ h.1 (spare-looks place caller class h.0 (Alloc caller need at ∷ []) (tt, tt))
spare-giving place caller need at (Large units) events h = spare-as place events (Alloc caller need at ∷ []) h (tt, tt)
spare-giving place caller need at TooLarge events h = absurd h

spare-refusing : (place caller need : ℕ) (n : Need) (events : List Event) → IsRefusing caller need n events → AllSpare place events
spare-refusing place caller need (Small class) events h =
    spare-as place events _ h.1 (spare-looks place caller class (suc h.0) (Refuse caller need ∷ []) (tt, tt))
spare-refusing place caller need (Large units) events h = spare-as place events (Refuse caller need ∷ []) h (tt, tt)
spare-refusing place caller need TooLarge events h = absurd h

spare-spending : (place caller : ℕ) (n : Need) (events : List Event) → IsSpending caller n events → AllSpare place events
spare-spending place caller (Small class) events h = spare-as place events _ h.1 (only-looks place caller class h.0)
spare-spending place caller (Large units) events h = absurd h
spare-spending place caller TooLarge events h = absurd h

-- the events of a call so far spare a place that the call leaves; those of a write, a read, a put or a take are none
alloc-spares : (place caller n : ℕ) (stage : StageOfCall) (events : List Event) → SoFar caller (alloc n) stage events → AllSpare place events
alloc-spares place caller n (asking words class looked) events h = spare-looked place caller class looked events h.2
alloc-spares place caller n (asking_run words units) events h = spare-as place events [] h.2 tt
alloc-spares place caller n refused events h = spare-refusing place caller n (need_of n) events h
alloc-spares place caller n (given at need) events h = spare-giving place caller n at (need_of n) events h.1
alloc-spares place caller n stage events h = absurd h

free-spares : (place caller p : ℕ) (n : Need) (stage : StageOfCall) (events : List Event) → place ≢ p → SoFar caller (free p n) stage events → AllSpare place events
free-spares place caller p n (freeing at need) events apart h = spare-as place events [] h.2 tt
free-spares place caller p n freed events apart h = spare-as place events (Free caller p ∷ []) h (apart, tt)
free-spares place caller p n stage events apart h = absurd h

pub write-none : (caller p : ℕ) (n : Need) (j v : ℕ) (stage : StageOfCall) (events : List Event) → SoFar caller (write p n j v) stage events → events ≡ []
write-none caller p n j v (writing at i value) events h = h.3
write-none caller p n j v stage events h = absurd h

pub read-none : (caller p : ℕ) (n : Need) (j : ℕ) (stage : StageOfCall) (events : List Event) → SoFar caller (read p n j) stage events → events ≡ []
read-none caller p n j (reading at i) events h = h.2
read-none caller p n j stage events h = absurd h

pub put-none : (caller p : ℕ) (n : Need) (k : ℕ) (stage : StageOfCall) (events : List Event) → SoFar caller (put p n k) stage events → events ≡ []
put-none caller p n k (putting at need shelf) events h = h.3
put-none caller p n k stage events h = absurd h

pub take-none : (caller k : ℕ) (stage : StageOfCall) (events : List Event) → SoFar caller (take k) stage events → events ≡ []
take-none caller k (taking shelf) events h = h.1
take-none caller k stage events h = absurd h

pub so_far-spares : (place caller : ℕ) (call : Call) (stage : StageOfCall) (events : List Event) → LeavesPlace call place → SoFar caller call stage events → AllSpare place events
so_far-spares place caller (alloc n) stage events leaves h = alloc-spares place caller n stage events h
so_far-spares place caller (free p n) stage events leaves h = free-spares place caller p n stage events leaves h
so_far-spares place caller (write p n j v) stage events leaves h = spare-as place events [] (write-none caller p n j v stage events h) tt
so_far-spares place caller (read p n j) stage events leaves h = spare-as place events [] (read-none caller p n j stage events h) tt
so_far-spares place caller (put p n k) stage events leaves h = spare-as place events [] (put-none caller p n k stage events h) tt
so_far-spares place caller (take k) stage events leaves h = spare-as place events [] (take-none caller k stage events h) tt

-- the events of a call that has ended spare a place that its end leaves
pub events-spare : (place caller : ℕ) (end : Ended) (events : List Event) → LeavesAtEnd end place → EventsOf caller end events → AllSpare place events
events-spare place caller (ended.alloc_given need at) events leaves h = spare-giving place caller need at (need_of need) events h
events-spare place caller (ended.alloc_refused need) events leaves h = spare-refusing place caller need (need_of need) events h
events-spare place caller (ended.alloc_spent need) events leaves h = spare-spending place caller (need_of need) events h
events-spare place caller ended.alloc_too_large events leaves h = spare-as place events [] h tt
events-spare place caller (ended.freed p) events leaves h = spare-as place events (Free caller p ∷ []) h (leaves, tt)
events-spare place caller ended.read events leaves h = spare-as place events [] h tt
events-spare place caller (ended.wrote p i v) events leaves h = spare-as place events (Write caller p i v ∷ []) h (tt, tt)
events-spare place caller (ended.put_done p shelf) events leaves h = spare-as place events (Put caller p shelf ∷ []) h (leaves, tt)
events-spare place caller ended.put_full events leaves h = spare-as place events [] h tt
events-spare place caller (ended.take_got shelf p) events leaves h = spare-as place events (Take caller shelf p ∷ []) h (tt, tt)
events-spare place caller (ended.take_empty shelf) events leaves h = spare-as place events (TakeNone caller shelf ∷ []) h (tt, tt)
events-spare place caller ended.take_missed events leaves h = spare-as place events [] h tt
