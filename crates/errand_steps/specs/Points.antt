-- What each point of a caller does.
use Rattle.std.specs.Prelude.{ℕ, Bool, true, false}
use Rattle.word_table.specs.declared.action.Action.{Action}
use Rattle.word_table.specs.declared.action.Action.TheVariants as action
use Rattle.word_table.specs.declared.name.WordName.TheVariants as name
use Rattle.word_table.specs.declared.seat.Site.{Site}
use Rattle.word_table.specs.Seats.{SeatFields}
use Rattle.step_parts.specs.superblock.Points.{plan_block_of}
use Rattle.step_parts.specs.stack.Points.{plan_stack_of}
use Rattle.step_parts.specs.hazard.Points.{plan_desc_of}
use Rattle.step_parts.specs.partial.Points.{plan_partial_of}
use Rattle.step_parts.specs.large.Points.{plan_large_of}
use Rattle.errand_steps.specs.declared.continuation.Continuation.{Continuation}
use Rattle.errand_steps.specs.declared.continuation.Continuation.TheVariants.{Alloc, TakeFrame, GiveBlock, Discard, Turn, Look, Refuse, Free, Remove, Clear, ClearSecond, Retire, PushFirst, Finish, EndFree, Nothing}
use Rattle.errand_steps.specs.declared.point.Point.{Point}
use Rattle.errand_steps.specs.declared.point.Point.TheVariants.{Idle, Block, Stack, Desc, Partial, Large}

-- the superblock at hand for this seat, with this descriptor and this frame
abbrev pub site_of : SeatFields → ℕ → ℕ → Site
site_of s d frame = record { seat = s; desc = d; frame = frame }

-- the usable words that an allocation asked for; 0 for other calls
abbrev pub asked : Continuation → ℕ
asked (Alloc need) = need
asked (TakeFrame need d) = need
asked (GiveBlock need d frame i) = need
asked (Discard need d) = need
asked (Turn need) = need
asked (Look need) = need
asked Refuse = 0
asked Free = 0
asked (Remove d heap) = 0
asked Clear = 0
asked (ClearSecond first) = 0
asked (Retire d) = 0
asked (PushFirst first) = 0
asked (Finish stored) = 0
asked EndFree = 0
asked Nothing = 0

-- the caller is in no call
abbrev pub is_idle : Point → Bool
is_idle Idle = true
is_idle (Block p o) = false
is_idle (Stack p o) = false
is_idle (Desc p o) = false
is_idle (Partial p o) = false
is_idle (Large p o) = false

-- the action of a point; who is in no call makes none, and its action here stands for nothing
unfoldable pub plan_point_of : Point → Action
plan_point_of Idle = action.Load name.FrameHead
plan_point_of (Block p o) = plan_block_of p
plan_point_of (Stack p o) = plan_stack_of p
plan_point_of (Desc p o) = plan_desc_of p
plan_point_of (Partial p o) = plan_partial_of p
plan_point_of (Large p o) = plan_large_of p
