-- The run of a trace on a machine, lane by lane as its order runs say.
use Rattle.std.specs.Prelude.{ℕ, ◌≡◌, ◌≢◌, ◌<◌, ◌-◌, ◌^◌, List, [], ◌∷◌, ◌++◌, Option, min, All, count_by, length, replicate, None}
use Rattle.std.specs.List.{slice_index_or}
use Rattle.trace_text.specs.declared.limits.TheConstants.{REGISTERS}
use Rattle.trace_text.specs.declared.trace.Op.{Op}
use Rattle.trace_text.specs.declared.trace.OrderRun.{OrderRun}
use Rattle.trace_text.specs.declared.trace.Trace.{Trace}
use Rattle.errand_steps.specs.Begins.{IsIdle}
use Rattle.errand_steps.specs.Calls.{Call}
use Rattle.errand_steps.specs.Openings.{opening, IsOpening}
use Rattle.errand_steps.specs.Steps.{State}
use Rattle.sound_laws.specs.bounds.Contention.{lost_of}
use Rattle.sound_state.specs.Moves.{is_step}
use Rattle.sound_state.specs.Runs.{Move, Moved, begins, steps}
use Rattle.sound_state.specs.Sums.{callers_sum}
use Rattle.step_machine.specs.Cores.{CoreFields, errand_at, state_of}
use Rattle.heap_geometry.specs.declared.geometry.Geometry.{Geometry}
use Rattle.lane_outcomes.specs.declared.outcome.Outcome.{Outcome}
use Rattle.lane_outcomes.specs.declared.registers.HeldBlock.{HeldBlock}
use Rattle.lane_outcomes.specs.Fits.{OutcomesFit}
use Rattle.lane_runner.specs.Orders.{InOrder}
use Rattle.trace_lane.specs.Begun.{calls_of}
use Rattle.trace_lane.specs.declared.work.Work.{Work}
use Rattle.trace_lane.specs.Lanes.{IsLane}
use Rattle.trace_lane.specs.Scripts.{Scripts}

-- who makes each of the steps among moves
abbrev pub steppers_of : List Move → List ℕ
steppers_of [] = []
steppers_of (begins caller call ∷ moves) = steppers_of moves
steppers_of (steps caller ∷ moves) = caller ∷ steppers_of moves

-- a lane of these operations that has begun these calls stands by its rule in this state
pub record IsOnItsWay (g : Geometry) (operations : List Op) (lane : ℕ) (s : State) (calls : List Call) : Type 0 where
  pub registers : List (Option HeldBlock)
  pub results : List Outcome
  pub at : Option (Work HeldBlock)
  pub rule : IsLane g lane s.history (s.errand lane) operations registers results at calls

-- the caller whose move it is
abbrev pub mover_of : Move → ℕ
mover_of (begins caller call) = caller
mover_of (steps caller) = caller

-- each lane but the one that moves next is on its way after these moves
abbrev pub OthersAreOnTheirWay : Geometry → List (List Op) → List Move → State → Move → Type 0
OthersAreOnTheirWay g lanes earlier s move =
    (lane : ℕ) → lane < length lanes → lane ≢ mover_of move → IsOnItsWay g (slice_index_or lanes lane []) lane s (calls_of lane earlier)

-- moves behind earlier ones lead from one state to the other; and at each of them, every lane but the one that moves is on its way
abbrev pub Drives : Geometry → List (List Op) → List Move → State → List Move → State → Type 0
Drives g lanes earlier s [] s' = s' ≡ s
Drives g lanes earlier s (move ∷ rest) s' =
    (next : State) × Moved g s move next × OthersAreOnTheirWay g lanes earlier s move × Drives g lanes (earlier ++ move ∷ []) next rest s'

-- what all callers of a machine lost, as a whole number
abbrev pub lost_by_all : CoreFields → ℕ
lost_by_all c = callers_sum c.geometry lost_of (errand_at c.errands)

-- a lane of these operations stands by its rule in this state, behind its last operation, with these outcomes, and has begun these calls
pub record IsAtItsEnd (g : Geometry) (operations : List Op) (lane : ℕ) (s : State) (results : List Outcome) (calls : List Call) : Type 0 where
  pub registers : List (Option HeldBlock)
  pub rule : IsLane g lane s.history (s.errand lane) operations registers results None calls

-- lanes of a trace have run on this machine since its opening, in this order: moves of its lanes led to it, and each lane is on its way
pub record IsDrivenSoFar (trace : Trace) (orders : List OrderRun) (c : CoreFields) : Type 0 where
  pub geometry : c.geometry ≡ trace.heap
  pub opened : State
  pub opens : IsOpening trace.heap (opening trace.heap) opened
  pub moves : List Move
  pub by_lanes : All (λ move. mover_of move < length trace.lanes) moves
  pub drives : Drives trace.heap trace.lanes [] opened moves (state_of c)
  pub counted : c.steps ≡ min (count_by is_step moves) (2 ^ 64 - 1)
  pub order : InOrder orders (length trace.lanes) (steppers_of moves)
  pub on_way :
      (lane : ℕ) → lane < length trace.lanes
      → IsOnItsWay trace.heap (slice_index_or trace.lanes lane []) lane (state_of c) (calls_of lane moves)

-- each lane of a trace has run on this machine to its end, began the calls of its script, and has these outcomes, which fit
pub record IsDriven (trace : Trace) (orders : List OrderRun) (c : CoreFields) (outcomes : List (List Outcome)) : Type 0 where
  pub so_far : IsDrivenSoFar trace orders c
  pub scripts :
      (lane : ℕ) → lane < length trace.lanes
      → Scripts (replicate REGISTERS None) (slice_index_or trace.lanes lane []) (slice_index_or outcomes lane []) (calls_of lane so_far.moves)
  pub ended :
      (lane : ℕ) → lane < length trace.lanes
      → IsAtItsEnd trace.heap (slice_index_or trace.lanes lane []) lane (state_of c) (slice_index_or outcomes lane []) (calls_of lane so_far.moves)
  pub idle : (caller : ℕ) → caller < trace.heap.callers → IsIdle (errand_at c.errands caller)
  pub fit : OutcomesFit trace.heap c.events (lost_by_all c) trace.lanes outcomes
