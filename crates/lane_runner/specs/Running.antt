-- How lanes stand on a machine, and what their advances make of both.
use Rattle.std.specs.Prelude.{ℕ, ◌≡◌, ◌<◌, ◌≤◌, ◌++◌, ◌-◌, ◌^◌, List, [], None, min, length, count_by, All, Contains}
use Rattle.std.specs.List.{slice_index_or}
use Rattle.trace_text.specs.declared.trace.Op.{Op}
use Rattle.trace_text.specs.declared.trace.Trace.{Trace}
use Rattle.pool_model.specs.Histories.{own}
use Rattle.errand_steps.specs.Begins.{IsIdle}
use Rattle.errand_steps.specs.Calls.{Call}
use Rattle.errand_steps.specs.Openings.{opening, IsOpening}
use Rattle.errand_steps.specs.Steps.{State}
use Rattle.sound_state.specs.Moves.{is_step}
use Rattle.sound_state.specs.Runs.{Move}
use Rattle.step_machine.specs.Cores.{CoreFields, IsCore, errand_at, state_of}
use Rattle.lane_engine.specs.declared.grip.Grip.{Grip}
use Rattle.trace_lane.specs.declared.lane.LaneState.{LaneState}
use Rattle.trace_lane.specs.Begun.{calls_of}
use Rattle.lane_runner.specs.Driven.{Drives, mover_of, steppers_of}
use Rattle.lane_runner.specs.Orders.{InOrder, OneByOne}
use Rattle.trace_lane.specs.Paths.{IsBy, MovesLead, FirstPassed}
use Rattle.trace_lane.specs.Scripts.{begun_count}
use Rattle.trace_lane.specs.States.{IsLaneOn, StandsOn}

-- no operation of the lane is under way, and none is left
pub record HasEnded (operations : List Op) (lane : LaneState Grip) : Type 0 where
  pub between : lane.work ≡ None
  pub all : length lane.outcomes.items ≡ length operations

-- as many operations as a lane has begun have passed the gate
abbrev pub HasPassed : (ℕ → ℕ → Type 0) → LaneState Grip → Type 0
HasPassed passed lane = FirstPassed passed lane.caller (begun_count lane.outcomes.items lane.work)

-- a lane has made so many steps on the machine, and no other caller has moved; one that had ended made none
pub record HasRun (passed : ℕ → ℕ → Type 0) (c after : CoreFields) (operations : List Op) (old new : LaneState Grip) (made : ℕ) : Type 0 where
  pub heap : after.geometry ≡ c.geometry
  pub caller : new.caller ≡ old.caller
  pub moves : List Move
  pub leads : MovesLead c moves after
  pub by_caller : All (IsBy old.caller) moves
  pub counts : count_by is_step moves ≡ made
  pub calls : (calls : List Call) → IsLaneOn c operations old calls → IsLaneOn after operations new (calls ++ calls_of old.caller moves)
  pub stands : StandsOn after operations new
  pub still : HasEnded operations old → (made ≡ 0) × HasEnded operations new
  pub gate : HasPassed passed old → HasPassed passed new

-- a lane has made so many steps, or fewer and then none is left
pub record HasRunSome (passed : ℕ → ℕ → Type 0) (c after : CoreFields) (operations : List Op) (old new : LaneState Grip) (steps : ℕ) : Type 0 where
  pub made : ℕ
  pub ran : HasRun passed c after operations old new made
  pub most : made ≤ steps
  pub ended : made < steps → HasEnded operations new

-- a lane ran to its end
pub record HasRunOut (passed : ℕ → ℕ → Type 0) (c after : CoreFields) (operations : List Op) (old new : LaneState Grip) : Type 0 where
  pub made : ℕ
  pub ran : HasRun passed c after operations old new made
  pub ended : HasEnded operations new

-- the operations of a lane of a trace
abbrev pub operations_in : Trace → ℕ → List Op
operations_in trace lane = slice_index_or trace.lanes lane []

-- the lanes of a trace, and no one else, have made these moves on the machine since its opening; a caller without a lane is in no call, and has made no event
pub record LanesMoved (trace : Trace) (c : CoreFields) (moves : List Move) : Type 0 where
  pub heap : c.geometry ≡ trace.heap
  pub opened : State
  pub opens : IsOpening trace.heap (opening trace.heap) opened
  pub by_lanes : All (λ move. mover_of move < length trace.lanes) moves
  pub drives : Drives trace.heap trace.lanes [] opened moves (state_of c)
  pub counted : c.steps ≡ min (count_by is_step moves) (2 ^ 64 - 1)
  pub rest :
      (caller : ℕ) → length trace.lanes ≤ caller → caller < c.geometry.callers
      → IsIdle (errand_at c.errands caller) × (own caller c.events ≡ [])

-- a lane stands on the machine as the caller of its number, and has begun the calls of that caller's moves; what it has begun has passed the gate
pub record IsRunning (passed : ℕ → ℕ → Type 0) (trace : Trace) (c : CoreFields) (moves : List Move) (lane : ℕ) (state : LaneState Grip) : Type 0 where
  pub number : state.caller ≡ lane
  pub stands : IsLaneOn c (operations_in trace lane) state (calls_of state.caller moves)
  pub gone : HasPassed passed state

-- and all lanes of the trace stand so
pub record LanesRan (passed : ℕ → ℕ → Type 0) (trace : Trace) (c : CoreFields) (lanes : List (LaneState Grip)) (moves : List Move) : Type 0 where
  pub core : IsCore c
  pub moved : LanesMoved trace c moves
  pub all : length lanes ≡ length trace.lanes
  pub each :
      (lane : ℕ) (state : LaneState Grip) → lane < length lanes → state ≡ slice_index_or lanes lane state
      → IsRunning passed trace c moves lane state

-- a lane of these has ended
abbrev pub HasEndedIn : Trace → List (LaneState Grip) → ℕ → Type 0
HasEndedIn trace lanes lane =
    (lane < length lanes) × ((state : LaneState Grip) → state ≡ slice_index_or lanes lane state → HasEnded (operations_in trace lane) state)

-- the lanes of a trace ran before steps that are so: where such steps follow, none of them by a lane that has ended, all are in the trace's order
pub record HaveRunBefore (passed : ℕ → ℕ → Type 0) (trace : Trace) (IsRest : List ℕ → Type 0) (c : CoreFields) (lanes : List (LaneState Grip)) : Type 0 where
  pub moves : List Move
  pub ran : LanesRan passed trace c lanes moves
  pub order :
      (rest : List ℕ) → ((lane : ℕ) → HasEndedIn trace lanes lane → ¬ Contains rest lane) → IsRest rest
      → InOrder trace.orders (length trace.lanes) (steppers_of moves ++ rest)

-- behind all order runs the first lanes, so many, ran to their ends, lane 0 first
pub record HaveFinished (passed : ℕ → ℕ → Type 0) (trace : Trace) (count : ℕ) (c : CoreFields) (lanes : List (LaneState Grip)) : Type 0 where
  pub run : HaveRunBefore passed trace (OneByOne count (length trace.lanes - count)) c lanes
  pub ended : (lane : ℕ) → lane < count → HasEndedIn trace lanes lane
