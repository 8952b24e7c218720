-- Where a lane stands between two of its steps.
use Rattle.std.specs.Prelude.{ℕ, ◌≡◌, ◌++◌, List, Option, Some, None}
use Rattle.heap_geometry.specs.declared.geometry.Geometry.{Geometry}
use Rattle.pool_model.specs.declared.event.Event.{Event}
use Rattle.errand_steps.specs.Calls.{Call}
use Rattle.errand_steps.specs.Errands.{ErrandFields}
use Rattle.sound_laws.specs.events.Made.{LeadsBy, Made}
use Rattle.step_machine.specs.Moments.{HasSeenMore}
use Rattle.trace_text.specs.declared.trace.Op.{Op}
use Rattle.lane_engine.specs.Callers.{Caller, IsAtRest, IsCall, IsIn, OwnsFor, new_caller}
use Rattle.lane_outcomes.specs.declared.registers.HeldBlock.{HeldBlock}
use Rattle.lane_outcomes.specs.declared.outcome.Outcome.{Outcome}
use Rattle.trace_lane.specs.declared.work.Work.{Work}
use Rattle.trace_lane.specs.Doing.{IsMaking}
use Rattle.trace_lane.specs.Made.{calls_in, calls_made}

-- since it was new, the caller of this number has made these whole calls, and stands so: it is in no call, or it has begun this one, on a block of its own where it is on one, and is in it still
abbrev pub StandsBy : Geometry → ℕ → List Made → Option Call → Caller → Type 0
StandsBy g caller made None now = LeadsBy (IsCall g) (new_caller caller g) made now × IsAtRest g now
StandsBy g caller made (Some call) now =
    (last : Caller) × LeadsBy (IsCall g) (new_caller caller g) made last × IsAtRest g last × OwnsFor last.seen last.errand.caller call
    × IsIn last call now

-- a lane of these operations has these outcomes so far, and these registers, has this request under way or none, and has begun these calls; its caller has this errand, and these events are seen: the whole calls that its outcomes and its request tell were made by the caller since it was new, and the others have made what it hasn't seen with its last step
pub record IsLane (g : Geometry) (caller : ℕ) (events : List Event) (e : ErrandFields) (operations : List Op) (registers : List (Option HeldBlock))
    (results : List Outcome) (at : Option (Work HeldBlock)) (calls : List Call) : Type 0 where
  pub made : List Made
  pub under : Option Call
  pub making : IsMaking operations registers results at made under
  pub begun : calls ≡ calls_made made ++ calls_in under
  pub sight : List Event
  pub stands : StandsBy g caller made under (record { errand = e; seen = sight })
  pub more : HasSeenMore caller sight events
