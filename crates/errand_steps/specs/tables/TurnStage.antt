-- How far an allocation of a small block may be.
use Rattle.errand_steps.specs.declared.continuation.Continuation.TheVariants as continuation
use Rattle.errand_steps.specs.declared.continuation.Continuation.{Continuation}

-- how far a caller is in a turn of a small block's allocation
pub data TurnStage : Type 0 where
  -- in no turn: the caller allocates no small block, or has its block already
  out_of_turn : TurnStage
  -- the caller is at the active word, or at a block that it takes of the active superblock
  at_active : TurnStage
  -- the caller found no superblock active, and looks for a partial one, or for a descriptor and a frame
  searching : TurnStage
  -- the caller has taken a partial superblock, or a grant of it
  partial_taken : TurnStage
  -- the caller has popped a frame: its new superblock is in the making, or waits
  frame_taken : TurnStage
  -- the caller's new superblock wasn't needed
  not_needed : TurnStage
  -- the caller was refused, and retires its descriptor before its call ends
  turned_down : TurnStage
  -- the caller has its block, and offers what it reserved beside
  offering : TurnStage

-- how far a turn is by what waits behind a part
abbrev pub continuation_turn_stage : Continuation → TurnStage
continuation_turn_stage (continuation.Alloc words) = searching
continuation_turn_stage (continuation.TakeFrame words d) = searching
continuation_turn_stage (continuation.Look words) = searching
continuation_turn_stage (continuation.Discard words d) = not_needed
continuation_turn_stage (continuation.Turn words) = not_needed
continuation_turn_stage continuation.Refuse = turned_down
continuation_turn_stage o = out_of_turn
