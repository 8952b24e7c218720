-- What follows each step. Where a part is left, what follows depends on the continuation.
use Rattle.std.specs.Prelude.{ℕ, Bool, if◌then◌else◌}
use Rattle.heap_geometry.specs.declared.need.Need.TheVariants as need
use Rattle.heap_geometry.specs.Place.{block_place}
use Rattle.packed_words.specs.Head.{HeadFields}
use Rattle.word_table.specs.declared.action.Found.{Found}
use Rattle.word_table.specs.declared.onward.Onward.{Onward}
use Rattle.word_table.specs.declared.onward.Onward.TheVariants.{Stays, Leaves}
use Rattle.word_table.specs.Seats.{SeatFields, heap_of}
use Rattle.step_parts.specs.declared.superblock.point.Share.TheVariants.{Grant}
use Rattle.step_parts.specs.declared.superblock.point.BlockPoint.{BlockPoint}
use Rattle.step_parts.specs.declared.superblock.point.BlockPoint.TheVariants as block
use Rattle.step_parts.specs.declared.superblock.exit.BlockExit.{BlockExit}
use Rattle.step_parts.specs.declared.superblock.exit.BlockExit.TheVariants as block_exit
use Rattle.step_parts.specs.superblock.Points.{settle_block_of}
use Rattle.step_parts.specs.declared.stack.point.Pile.{Pile}
use Rattle.step_parts.specs.declared.stack.point.Pile.TheVariants.{Frames, Partials}
use Rattle.step_parts.specs.declared.stack.point.StackPoint.{StackPoint}
use Rattle.step_parts.specs.declared.stack.point.StackPoint.TheVariants as stack
use Rattle.step_parts.specs.declared.stack.exit.StackExit.{StackExit}
use Rattle.step_parts.specs.declared.stack.exit.StackExit.TheVariants as stack_exit
use Rattle.step_parts.specs.stack.Points.{settle_stack_of}
use Rattle.step_parts.specs.declared.hazard.point.DescPoint.{DescPoint}
use Rattle.step_parts.specs.declared.hazard.point.DescPoint.TheVariants as desc
use Rattle.step_parts.specs.declared.hazard.exit.DescExit.{DescExit}
use Rattle.step_parts.specs.declared.hazard.exit.DescExit.TheVariants as desc_exit
use Rattle.step_parts.specs.hazard.Points.{settle_desc_of}
use Rattle.step_parts.specs.declared.partial.point.PartialPoint.{PartialPoint}
use Rattle.step_parts.specs.declared.partial.point.PartialPoint.TheVariants as partial
use Rattle.step_parts.specs.declared.partial.exit.PartialExit.{PartialExit}
use Rattle.step_parts.specs.declared.partial.exit.PartialExit.TheVariants as partial_exit
use Rattle.step_parts.specs.partial.Points.{settle_partial_of}
use Rattle.step_parts.specs.declared.large.point.LargePoint.{LargePoint}
use Rattle.step_parts.specs.declared.large.exit.LargeExit.{LargeExit}
use Rattle.step_parts.specs.declared.large.exit.LargeExit.TheVariants as large_exit
use Rattle.step_parts.specs.large.Points.{settle_large_of}
use Rattle.errand_steps.specs.declared.continuation.Continuation.{Continuation}
use Rattle.errand_steps.specs.declared.continuation.Continuation.TheVariants as continuation
use Rattle.errand_steps.specs.declared.point.Point.{Point}
use Rattle.errand_steps.specs.declared.point.Point.TheVariants.{Idle, Block, Stack, Desc, Partial, Large}
use Rattle.errand_steps.specs.declared.reply.Reply.TheVariants as reply
use Rattle.errand_steps.specs.declared.next.Next.{Next}
use Rattle.errand_steps.specs.declared.next.Next.TheVariants.{At, End, Turn, Retire, Pick, Unlist}
use Rattle.errand_steps.specs.Points.{asked, site_of}

-- the end of a free: it clears the hazard word where it stored it
abbrev pub finish : SeatFields → Bool → Next
finish s stored = if stored then At (Desc (desc.ClearHazard s) continuation.EndFree) else End reply.Freed

-- what was to be put away stands in its slot or on its stack
abbrev pub put_away : SeatFields → Continuation → Next
put_away s (continuation.GiveBlock need d frame i) = At (Block (block.StorePrefix (site_of s d frame) i) (continuation.Alloc need))
put_away s (continuation.Finish stored) = finish s stored
put_away s (continuation.Discard need d) = Retire s d (continuation.Turn need)
put_away s (continuation.Remove d heap) = At (Partial (partial.LoadHeldSlot s d heap) continuation.Free)
put_away s (continuation.Retire d) = Retire s d continuation.EndFree
put_away s (continuation.PushFirst first) = At (Stack (stack.LoadTopToPush s Partials first) continuation.EndFree)
put_away s o = End reply.Freed

-- a stack was found empty: an allocation confirms that by a step, a free is done with the list
abbrev pub found_empty : SeatFields → Pile → HeadFields → Continuation → Next
found_empty s pile h continuation.Clear = End reply.Freed
found_empty s pile h (continuation.ClearSecond first) = At (Stack (stack.LoadTopToPush s Partials first) continuation.EndFree)
found_empty s pile h o = At (Stack (stack.ConfirmEmpty s pile h) o)

-- a stack is empty: with no partial superblock a new one is made, with no frame the allocation is refused
abbrev pub confirmed_empty : SeatFields → Continuation → Next
confirmed_empty s (continuation.TakeFrame need d) = Retire s d continuation.Refuse
confirmed_empty s o = At (Desc (desc.LoadDescHead s) o)

-- an index was popped: the frame of a new superblock, a partial superblock that is taken, or one that may be empty
abbrev pub popped : SeatFields → ℕ → Continuation → Next
popped s i (continuation.TakeFrame need d) =
    At (Block (block.LinkBlock (site_of s d i) 0) (continuation.Alloc need))
popped s i (continuation.Alloc need) = At (Partial (partial.LoadTakenInfo s i) (continuation.Alloc need))
popped s i o = At (Partial (partial.LoadListedAnchor s i) o)

-- the hazard word of a free is 0: it looks through the list, retires what it removed, or ends
abbrev pub cleared : SeatFields → Continuation → Next
cleared s continuation.Clear = At (Stack (stack.LoadTop s Partials) continuation.Clear)
cleared s (continuation.Retire d) = Retire s d continuation.EndFree
cleared s o = End reply.Freed

-- a listed superblock is empty: it is retired, and the one before it goes back to the list
abbrev pub listed_empty : SeatFields → ℕ → Continuation → Next
listed_empty s d (continuation.ClearSecond first) = At (Stack (stack.LoadTopToPush s Partials first) (continuation.Retire d))
listed_empty s d o = Retire s d continuation.EndFree

-- a listed superblock is not empty: a second one is popped, and after that both go back
abbrev pub listed_partial : SeatFields → ℕ → Continuation → Next
listed_partial s d (continuation.ClearSecond first) = At (Stack (stack.LoadTopToPush s Partials d) (continuation.PushFirst first))
listed_partial s d o = At (Stack (stack.LoadTop s Partials) (continuation.ClearSecond d))

-- a superblock is left by an exit; where the caller stays there it stands at the next point
abbrev pub leave_block : BlockExit → Continuation → Next
leave_block (block_exit.WantsPartial s) o = At (Partial (partial.LoadSlot s) o)
leave_block (block_exit.Returned at i) o =
    At (Partial (partial.PutSlot at.seat at.desc (heap_of at.seat)) (continuation.GiveBlock (asked o) at.desc at.frame i))
leave_block (block_exit.Discarded at) o =
    At (Stack (stack.LoadTopToPush at.seat Frames at.frame) (continuation.Discard (asked o) at.desc))
leave_block (block_exit.Given at i) o =
    End (reply.Given (block_place at.frame at.seat.class i) (need.Small at.seat.class))
leave_block (block_exit.BecameEmpty at heap) o =
    At (Stack (stack.LoadTopToPush at.seat Frames at.frame) (continuation.Remove at.desc heap))
leave_block (block_exit.BecamePartial at stored) o = At (Partial (partial.LoadOwner at.seat at.desc) (continuation.Finish stored))
leave_block (block_exit.Pushed s stored) o = finish s stored

abbrev pub enter_block : Onward BlockPoint BlockExit → Continuation → Next
enter_block (Stays p) o = At (Block p o)
enter_block (Leaves e) o = leave_block e o

-- a stack is left by an exit
abbrev pub leave_stack : StackExit → Continuation → Next
leave_stack (stack_exit.Popped s pile i) o = popped s i o
leave_stack (stack_exit.FoundEmpty s pile h) o = found_empty s pile h o
leave_stack (stack_exit.ConfirmedEmpty s pile) o = confirmed_empty s o
leave_stack (stack_exit.Pushed s pile) o = put_away s o

abbrev pub enter_stack : Onward StackPoint StackExit → Continuation → Next
enter_stack (Stays p) o = At (Stack p o)
enter_stack (Leaves e) o = leave_stack e o

-- the descriptors or the hazard words are left by an exit
abbrev pub leave_desc : DescExit → Continuation → Next
leave_desc (desc_exit.Got s d) o = At (Stack (stack.LoadTop s Frames) (continuation.TakeFrame (asked o) d))
leave_desc (desc_exit.Cleared s) o = cleared s o
leave_desc (desc_exit.Scanned s held) o = Pick s held o
leave_desc (desc_exit.Pushed s d) o = Unlist s d o

abbrev pub enter_desc : Onward DescPoint DescExit → Continuation → Next
enter_desc (Stays p) o = At (Desc p o)
enter_desc (Leaves e) o = leave_desc e o

-- a partial superblock is left by an exit
abbrev pub leave_partial : PartialExit → Continuation → Next
leave_partial (partial_exit.SlotEmpty s) o = At (Stack (stack.LoadTop s Partials) o)
leave_partial (partial_exit.Granted at more) o = At (Block (block.LoadAnchor at (Grant more)) o)
leave_partial (partial_exit.TookEmpty at) o = Retire at.seat at.desc (continuation.Look (asked o))
leave_partial (partial_exit.SlotFilled s) o = put_away s o
leave_partial (partial_exit.Displaced s d) o = At (Stack (stack.LoadTopToPush s Partials d) o)
leave_partial (partial_exit.NotInSlot s) o = At (Desc (desc.ClearHazard s) continuation.Clear)
leave_partial (partial_exit.Removed s d) o = At (Desc (desc.ClearHazard s) (continuation.Retire d))
leave_partial (partial_exit.ListedEmpty s d) o = listed_empty s d o
leave_partial (partial_exit.ListedPartial s d) o = listed_partial s d o

abbrev pub enter_partial : Onward PartialPoint PartialExit → Continuation → Next
enter_partial (Stays p) o = At (Partial p o)
enter_partial (Leaves e) o = leave_partial e o

-- a large block, a usable word or a shelf is left by an exit
abbrev pub leave_large : LargeExit → Continuation → Next
leave_large (large_exit.GivenRun place run) o = End (reply.Given place (need.Large run.units))
leave_large large_exit.NoRun o = End reply.Refused
leave_large large_exit.FreedRun o = End reply.Freed
leave_large large_exit.Wrote o = End reply.Wrote
leave_large (large_exit.Word value) o = End (reply.Word value)
leave_large large_exit.PutDone o = End reply.Put
leave_large (large_exit.ShelfFull found) o = End (reply.Full found)
leave_large (large_exit.Got place need) o = End (reply.Got place need)
leave_large large_exit.NothingThere o = End reply.Empty
leave_large (large_exit.Missed expected found) o = End (reply.Missed expected found)

abbrev pub enter_large : Onward LargePoint LargeExit → Continuation → Next
enter_large (Stays p) o = At (Large p o)
enter_large (Leaves e) o = leave_large e o

-- what follows the step in which a point's action found something
unfoldable pub next_of : Point → Found → Next
next_of Idle x = At Idle
next_of (Block p o) x = enter_block (settle_block_of p x) o
next_of (Stack p o) x = enter_stack (settle_stack_of p x) o
next_of (Desc p o) x = enter_desc (settle_desc_of p x) o
next_of (Partial p o) x = enter_partial (settle_partial_of p x) o
next_of (Large p o) x = enter_large (settle_large_of p x) o

-- how a call goes on after a retirement
abbrev pub resumed : SeatFields → Continuation → Next
resumed s (continuation.Turn need) = Turn s need
resumed s (continuation.Look need) = At (Partial (partial.LoadSlot s) (continuation.Alloc need))
resumed s continuation.Refuse = End reply.Refused
resumed s o = End reply.Freed
