-- A lane's state, and a new one.
use Rattle.std.specs.Prelude.{ℕ, ◌≡◌, ◌<◌, ◌≤◌, [], List, Option, None, length, replicate, vec_capacity}
use Rattle.std.specs.List.{slice_index_or}
use Rattle.std.specs.Option.{option_map}
use Rattle.errand_steps.specs.Calls.{Call}
use Rattle.step_machine.specs.Cores.{CoreFields, IsCore}
use Rattle.trace_text.specs.declared.limits.TheConstants.{REGISTERS}
use Rattle.trace_text.specs.declared.trace.Op.{Op}
use Rattle.lane_engine.specs.declared.grip.Grip.{Grip}
use Rattle.lane_engine.specs.Engines.{Engine, machine_at}
use Rattle.lane_outcomes.specs.declared.registers.HeldBlock.{HeldBlock}
use Rattle.trace_lane.specs.declared.lane.LaneState.{LaneState}
use Rattle.trace_lane.specs.declared.work.Work.{Work}
use Rattle.trace_lane.specs.Works.{work_held}
use Rattle.trace_lane.specs.Lanes.{IsLane}
use Rattle.trace_lane.specs.Paths.{held_blocks, held_by}

-- a lane before its first operation, with room for so many outcomes
pub record IsNew {B : Type 0} (caller count : ℕ) (lane : LaneState B) : Type 0 where
  pub caller_is : lane.caller ≡ caller
  pub empty : lane.registers.items ≡ replicate REGISTERS None
  pub none : lane.outcomes.items ≡ []
  pub between : lane.work ≡ None
  pub room : count ≤ vec_capacity lane.outcomes

-- a new lane for each list of operations
pub record AreNew {B : Type 0} (lanes : List (List Op)) (states : List (LaneState B)) : Type 0 where
  pub all : length states ≡ length lanes
  pub each :
      (lane : ℕ) (state : LaneState B) → lane < length states → state ≡ slice_index_or states lane state
      → IsNew lane (length (slice_index_or lanes lane [])) state

-- a block in hand as a register's, as this engine has it; and registers that hold blocks in hand
abbrev pub held_at : {B : Type 0} → Engine B → B → HeldBlock
held_at engine block = held_by engine.place_of engine.need_of block

abbrev pub registers_at : {B : Type 0} → Engine B → List (Option B) → List (Option HeldBlock)
registers_at engine registers = held_blocks engine.place_of engine.need_of registers

-- and what is under way of a request
abbrev pub work_at : {B : Type 0} → Engine B → Option (Work B) → Option (Work HeldBlock)
work_at engine at = option_map (work_held engine.place_of engine.need_of) at

-- the lane of these operations stands so over this engine, and has begun these calls; it has room for all outcomes
pub record IsLaneOf {B : Type 0} (engine : Engine B) (operations : List Op) (lane : LaneState B) (calls : List Call) : Type 0 where
  pub stands :
      IsLane engine.geometry lane.caller engine.events engine.errand operations
      (registers_at engine lane.registers.items) lane.outcomes.items (work_at engine lane.work) calls
  pub size : length lane.registers.items ≡ REGISTERS
  pub room : length operations ≤ vec_capacity lane.outcomes

-- the lane of these operations stands on a machine, and has begun these calls
abbrev pub IsLaneOn : CoreFields → List Op → LaneState Grip → List Call → Type 0
IsLaneOn c operations lane calls = IsLaneOf (machine_at c lane.caller) operations lane calls

-- the lane of these operations is one of a machine's callers, and stands on it
pub record StandsOn (c : CoreFields) (operations : List Op) (lane : LaneState Grip) : Type 0 where
  pub core : IsCore c
  pub has : lane.caller < c.geometry.callers
  pub calls : List Call
  pub stands : IsLaneOn c operations lane calls
