-- The steps left of the ways that a call may go, at most.
use Rattle.std.specs.Prelude.{ℕ, ◌+◌}
use Rattle.heap_geometry.specs.Need.{block_count_of}
use Rattle.heap_geometry.specs.declared.geometry.Geometry.{Geometry}
use Rattle.word_table.specs.Seats.{SeatFields}
use Rattle.errand_steps.specs.declared.continuation.Continuation.TheVariants as continuation
use Rattle.errand_steps.specs.declared.continuation.Continuation.{Continuation}

-- the steps left of a scan of a full retired list: every hazard word is read, and a descriptor is pushed
abbrev pub scan_left : Geometry → ℕ
scan_left g = g.callers + 3

-- the steps left of an allocation from the stack of frames on: its new superblock's blocks are linked, or it is refused
abbrev pub frame_left : Geometry → SeatFields → ℕ
frame_left g s = block_count_of s.class + 7 + scan_left g

-- the steps left of an allocation from the available descriptors on, from the class's list, from the slot, and from the active word
abbrev pub desc_left : Geometry → SeatFields → ℕ
desc_left g s = frame_left g s + 6

abbrev pub list_left : Geometry → SeatFields → ℕ
list_left g s = desc_left g s + 3

abbrev pub slot_left : Geometry → SeatFields → ℕ
slot_left g s = list_left g s + 1

abbrev pub active_left : Geometry → SeatFields → ℕ
active_left g s = slot_left g s + 1

-- the steps left of a free that looks through the class's list, with one descriptor popped already, and with none
abbrev pub second_left : Geometry → ℕ
second_left g = scan_left g + 10

abbrev pub clear_left : Geometry → ℕ
clear_left g = second_left g + 4

-- the steps left of a free that made its superblock empty, from the slot on
abbrev pub held_left : Geometry → ℕ
held_left g = clear_left g + 3

-- the steps left behind a retirement
abbrev pub resumed_left : Geometry → SeatFields → Continuation → ℕ
resumed_left g s (continuation.Turn words) = active_left g s
resumed_left g s (continuation.Look words) = slot_left g s
resumed_left g s o = 0

-- the steps left when something was put away
abbrev pub put_left : Geometry → SeatFields → Continuation → ℕ
put_left g s (continuation.GiveBlock words d frame i) = 1
put_left g s (continuation.Discard words d) = active_left g s + scan_left g
put_left g s (continuation.Remove d heap) = held_left g
put_left g s (continuation.Retire d) = scan_left g
put_left g s (continuation.PushFirst first) = 3
put_left g s (continuation.Finish stored) = 1
put_left g s o = 0

-- the steps left from the top of a stack on
abbrev pub top_left : Geometry → SeatFields → Continuation → ℕ
top_left g s (continuation.Alloc words) = list_left g s
top_left g s (continuation.TakeFrame words d) = frame_left g s
top_left g s continuation.Clear = clear_left g
top_left g s (continuation.ClearSecond first) = second_left g
top_left g s o = 3

-- the steps left behind a hazard word that is cleared
abbrev pub cleared_left : Geometry → Continuation → ℕ
cleared_left g continuation.Clear = clear_left g
cleared_left g (continuation.Retire d) = scan_left g
cleared_left g o = 0

-- the steps left of a free that read the anchor of a listed superblock
abbrev pub listed_left : Geometry → Continuation → ℕ
listed_left g (continuation.ClearSecond first) = scan_left g + 7
listed_left g o = second_left g + 1
