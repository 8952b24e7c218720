-- How an edge in memory answers its calls.
use Rattle.std.specs.Prelude.{ℕ, List, Contains, Result}
use Rattle.edge_io.specs.Faults.{faults_after, next_count}

-- how many bytes a call moves at most, which calls fail, and what was called so far
pub record CallPlan : Type 0 where
  pub chunk : ℕ
  -- the numbers of the calls that fail, counted from 1
  pub failing : List ℕ
  pub made : ℕ
  pub faults : ℕ

-- a plan by which no call was made yet
abbrev pub new_plan : ℕ → List ℕ → CallPlan
new_plan chunk failing = record { chunk = chunk; failing = failing; made = 0; faults = 0 }

-- the next call is listed as one that fails
abbrev pub IsListed : CallPlan → Type 0
IsListed plan = Contains plan.failing (next_count plan.made)

-- the plan after one more call
abbrev pub plan_after : {T E : Type 0} → CallPlan → Result T E → CallPlan
plan_after plan outcome = record plan { made = next_count plan.made; faults = faults_after plan.faults outcome }
