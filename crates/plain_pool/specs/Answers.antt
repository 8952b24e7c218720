-- What each answer of a plain pool says.
use Rattle.std.specs.Prelude.{ℕ, ◌≡◌, List, [], ◌∷◌}
use Rattle.heap_geometry.specs.declared.need.Need.TheVariants.{TooLarge as NoBlock}
use Rattle.heap_geometry.specs.Need.{need_of, usable_words}
use Rattle.pool_model.specs.declared.owner.Owner.TheVariants.{Shelf}
use Rattle.pool_model.specs.declared.event.Event.{Event}
use Rattle.pool_model.specs.declared.event.Event.TheVariants.{Alloc, Put as PutEvent, Take, TakeNone}
use Rattle.plain_pool.specs.declared.answers.PlainAlloc.{PlainAlloc}
use Rattle.plain_pool.specs.declared.answers.PlainAlloc.TheVariants.{Given, Refused, TooLarge}
use Rattle.plain_pool.specs.declared.answers.PlainPut.{PlainPut}
use Rattle.plain_pool.specs.declared.answers.PlainPut.TheVariants.{Put, Full}
use Rattle.plain_pool.specs.declared.answers.PlainTake.{PlainTake}
use Rattle.plain_pool.specs.declared.answers.PlainTake.TheVariants.{Got, Empty}
use Rattle.pool_model.specs.Calls.{Ended, EventsOf}
use Rattle.pool_model.specs.Calls.Ended.{alloc_given, alloc_refused, alloc_too_large}
use Rattle.pool_model.specs.Pool.{Owns}
use Rattle.pool_model.specs.Legal.{IsEmptyShelf}
use Rattle.plain_pool.specs.Plain.{PlainState, pool_in, AddsEvents, IsChosen, IsFull, refusal_of, HasWords}

-- an allocation: given at the chosen place, or refused where no block can be given, or too large for any
abbrev pub IsAllocated : PlainState → PlainState → ℕ → ℕ → PlainAlloc → Type 0
IsAllocated old new caller need (Given place words) =
    IsChosen old.geometry (pool_in old) (need_of need) place × (words ≡ usable_words (need_of need))
    × AddsEvents old new (Alloc caller need place ∷ [])
IsAllocated old new caller need Refused =
    ¬ (need_of need ≡ NoBlock) × IsFull old.geometry (pool_in old) (need_of need) × AddsEvents old new (refusal_of caller need (need_of need))
IsAllocated old new caller need TooLarge = (need_of need ≡ NoBlock) × (new ≡ old)

-- a block put on a shelf: put where the shelf is empty, else nothing changes
abbrev pub IsPut : PlainState → PlainState → ℕ → ℕ → ℕ → PlainPut → Type 0
IsPut old new caller place shelf Put = IsEmptyShelf (pool_in old) shelf × AddsEvents old new (PutEvent caller place shelf ∷ [])
IsPut old new caller place shelf Full = ((other : ℕ) × Owns (pool_in old) (Shelf shelf) other) × (new ≡ old)

-- a block taken from a shelf: the one that lies there, with its words, if there is one
abbrev pub IsTaken : PlainState → PlainState → ℕ → ℕ → PlainTake → Type 0
IsTaken old new caller shelf (Got place words) =
    Owns (pool_in old) (Shelf shelf) place × HasWords (pool_in old) place words × AddsEvents old new (Take caller shelf place ∷ [])
IsTaken old new caller shelf Empty = IsEmptyShelf (pool_in old) shelf × AddsEvents old new (TakeNone caller shelf ∷ [])

-- an allocation with its answer, as the table of events names it
abbrev pub ended_of : ℕ → PlainAlloc → Ended
ended_of need (Given place words) = alloc_given need place
ended_of need Refused = alloc_refused need
ended_of need TooLarge = alloc_too_large

-- the new pool has gained the events of the call that has ended so
abbrev pub AddsEventsOf : PlainState → PlainState → ℕ → Ended → Type 0
AddsEventsOf old new caller ended = (added : List Event) × AddsEvents old new added × EventsOf caller ended added
