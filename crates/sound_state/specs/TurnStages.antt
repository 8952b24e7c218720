-- How far an allocation of a small block is.
use Rattle.std.specs.Prelude.{Bool, true, false}
use Rattle.errand_steps.specs.declared.point.Point.{Point}
use Rattle.errand_steps.specs.declared.point.Point.TheVariants as point
use Rattle.errand_steps.specs.tables.TurnStage.{TurnStage, out_of_turn, at_active, partial_taken, frame_taken, not_needed, turned_down, offering, continuation_turn_stage}
use Rattle.errand_steps.specs.tables.Blocks.{block_turn_stage}
use Rattle.errand_steps.specs.tables.Partials.{partial_turn_stage}

-- how far a turn is at any point
abbrev pub turn_stage_of : Point → TurnStage
turn_stage_of point.Idle = out_of_turn
turn_stage_of (point.Block p o) = block_turn_stage p
turn_stage_of (point.Stack p o) = continuation_turn_stage o
turn_stage_of (point.Desc p o) = continuation_turn_stage o
turn_stage_of (point.Partial p o) = partial_turn_stage p o
turn_stage_of (point.Large p o) = out_of_turn

-- whether a stage, and a point, is one of a turn that has given no block yet
abbrev pub is_turn : TurnStage → Bool
is_turn out_of_turn = false
is_turn offering = false
is_turn stage = true

abbrev pub in_turn : Point → Bool
in_turn p = is_turn (turn_stage_of p)

-- whether a turn that has given no block has popped no frame; has no partial superblock; has neither a block nor a refusal
abbrev pub lacks_frame : TurnStage → Bool
lacks_frame frame_taken = false
lacks_frame not_needed = false
lacks_frame stage = is_turn stage

abbrev pub lacks_partial : TurnStage → Bool
lacks_partial partial_taken = false
lacks_partial stage = is_turn stage

abbrev pub lacks_answer : TurnStage → Bool
lacks_answer turned_down = false
lacks_answer stage = is_turn stage

-- whether a turn that has given no block found no superblock active
abbrev pub is_seeking : TurnStage → Bool
is_seeking at_active = false
is_seeking stage = is_turn stage

-- whether a turn's new superblock wasn't needed; whether a turn has given its block, and the caller offers what it reserved beside
abbrev pub is_unneeded : TurnStage → Bool
is_unneeded not_needed = true
is_unneeded stage = false

abbrev pub is_offering : TurnStage → Bool
is_offering offering = true
is_offering stage = false
