-- What callers may do, and which states that reaches.
use Rattle.std.specs.Prelude.{ℕ, ◌≡◌, ◌<◌, ◌^◌, List, [], ◌∷◌}
use Rattle.heap_geometry.specs.declared.geometry.Geometry.{Geometry}
use Rattle.heap_geometry.specs.declared.limits.TheConstants.{SHELVES}
use Rattle.heap_geometry.specs.Need.{usable_words}
use Rattle.errand_steps.specs.Begins.{IsIdle}
use Rattle.errand_steps.specs.Calls.{Call, alloc, free, write, read, put, take, begun_by}
use Rattle.errand_steps.specs.Errands.{ErrandFields}
use Rattle.errand_steps.specs.Steps.{State, Moves, Step}
use Rattle.sound_state.specs.Recalls.{IsOwned}
use Rattle.sound_state.specs.Sound.{with_errands}

-- a caller may begin the call: a block that it is about is the caller's, and the word or the shelf is there
abbrev pub MayBegin : State → ℕ → Call → Type 0
MayBegin s caller (alloc words) = Unit {0}
MayBegin s caller (free place need) = IsOwned s caller place need
MayBegin s caller (write place need i value) = IsOwned s caller place need × (i < usable_words need) × (value < 2 ^ 64)
MayBegin s caller (read place need i) = IsOwned s caller place need × (i < usable_words need)
MayBegin s caller (put place need shelf) = IsOwned s caller place need × (shelf < SHELVES)
MayBegin s caller (take shelf) = shelf < SHELVES

-- a caller that is in no call begins this call
pub record BeginsCall (s : State) (caller : ℕ) (call : Call) (s' : State) : Type 0 where
  pub idle : IsIdle (s.errand caller)
  pub may : MayBegin s caller call
  pub errands : ℕ → ErrandFields
  pub moves : Moves s.errand caller (begun_by (s.errand caller) call) errands
  pub after : s' ≡ with_errands s errands

-- what a caller does: it begins a call, or makes a step of the one that it is in
pub data Move : Type 0 where
  begins : (caller : ℕ) (call : Call) → Move
  steps : (caller : ℕ) → Move

abbrev pub Moved : Geometry → State → Move → State → Type 0
Moved g s (begins caller call) s' = (caller < g.callers) × BeginsCall s caller call s'
Moved g s (steps caller) s' = (caller < g.callers) × Step s caller s'

-- these moves, one after the other, of any callers in any order, lead from one state to the other
abbrev pub Reaches : Geometry → State → List Move → State → Type 0
Reaches g s [] s' = s' ≡ s
Reaches g s (move ∷ rest) s' = (next : State) × Moved g s move next × Reaches g next rest s'
