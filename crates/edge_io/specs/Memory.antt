-- What contracts see of the edges in memory.
use Rattle.std.specs.Prelude.{ℕ, ◌≡◌, ◌-◌, ◌↔◌, ◌⊎◌, List, Result, IfOk, IsErr, length, min}
use Rattle.edge_io.specs.declared.faults.Failed.{Failed}
use Rattle.edge_io.specs.Calls.{CallPlan, IsListed, plan_after}

-- a source: the bytes not yet read, and how it answers its calls
pub record MemoryInput : Type 0 where
  pub left : List ℕ
  pub calls : CallPlan

-- a sink: the bytes taken so far, how many it takes at most, and how it answers its calls
pub record MemoryOutput : Type 0 where
  pub holds : List ℕ
  pub room : ℕ
  pub calls : CallPlan

-- a read into a buffer of so many bytes is a call, and fails where that is listed; otherwise it gives as many bytes as it may
pub record MemoryGave (old : MemoryInput) (room : ℕ) (outcome : Result ℕ Failed) (new : MemoryInput) : Type 0 where
  pub calls : new.calls ≡ plan_after old.calls outcome
  pub fails : IsErr outcome ↔ IsListed old.calls
  pub count : IfOk outcome (λ n. n ≡ min (length old.left) (min room old.calls.chunk))

-- a write of a piece is a call, and fails where that is listed and where no room is left; otherwise it takes as many bytes as it may
pub record MemoryWrote (old : MemoryOutput) (piece : List ℕ) (outcome : Result ℕ Failed) (new : MemoryOutput) : Type 0 where
  pub calls : new.calls ≡ plan_after old.calls outcome
  pub fails : IsErr outcome ↔ ((length old.holds ≡ old.room) ⊎ IsListed old.calls)
  pub count : IfOk outcome (λ n. n ≡ min (min (length piece) old.calls.chunk) (old.room - length old.holds))
