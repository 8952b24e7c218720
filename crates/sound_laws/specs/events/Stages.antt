-- How far a call is at each point, as far as its events show it.
use Rattle.std.specs.Prelude.{true, false}
use Rattle.step_parts.specs.stack.Points.{seat_of_stack}
use Rattle.step_parts.specs.hazard.Points.{seat_of_desc}
use Rattle.step_parts.specs.partial.Points.{seat_of_partial}
use Rattle.errand_steps.specs.declared.point.Point.{Point}
use Rattle.errand_steps.specs.declared.point.Point.TheVariants as point
use Rattle.errand_steps.specs.tables.CallStage.{StageOfCall, none, continuation_stage}
use Rattle.errand_steps.specs.tables.Blocks.{block_stage}
use Rattle.errand_steps.specs.tables.LargeBlocks.{large_stage}

-- the stage of a call at any point
abbrev pub stage_of : Point → StageOfCall
stage_of point.Idle = none
stage_of (point.Block p o) = block_stage p o
stage_of (point.Stack p o) = continuation_stage false (seat_of_stack p) o
stage_of (point.Desc p o) = continuation_stage true (seat_of_desc p) o
stage_of (point.Partial p o) = continuation_stage false (seat_of_partial p) o
stage_of (point.Large p o) = large_stage p o
