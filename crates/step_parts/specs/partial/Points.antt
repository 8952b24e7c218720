-- What each point does, where it leads, and that what a point or an exit remembers exists in its heap.
use Rattle.std.specs.Prelude.{ℕ, Option, Some, None, ◌+◌, ◌==◌, if◌then◌else◌, ◌<◌, ◌≤◌}
use Rattle.packed_words.specs.Anchor.{AnchorFields, anchor_word, anchor_of}
use Rattle.packed_words.specs.Info.{InfoFields, info_word}
use Rattle.word_table.specs.declared.action.Action.{Action}
use Rattle.word_table.specs.declared.action.Action.TheVariants.{Load, Store, Cas, Swap}
use Rattle.word_table.specs.declared.action.Found.{Found}
use Rattle.word_table.specs.declared.name.WordName.{WordName}
use Rattle.word_table.specs.declared.name.WordName.TheVariants as name
use Rattle.word_table.specs.declared.onward.Onward.{Onward}
use Rattle.word_table.specs.declared.onward.Onward.TheVariants.{Stays, Leaves}
use Rattle.word_table.specs.declared.seat.Site.{Site}
use Rattle.word_table.specs.Seats.{SeatFields, desc_named, info_in, anchor_in}
use Rattle.word_table.specs.Sites.{info_at, slot_name, IsSeatOf, IsSiteOf, IsAnchorOf, IsDescOf}
use Rattle.step_parts.specs.declared.partial.exit.PartialExit.{PartialExit}
use Rattle.step_parts.specs.declared.partial.exit.PartialExit.TheVariants.{SlotEmpty, Granted, TookEmpty, SlotFilled, Displaced, NotInSlot, Removed, ListedEmpty, ListedPartial}
use Rattle.step_parts.specs.declared.partial.point.PartialPoint.{PartialPoint}
use Rattle.step_parts.specs.declared.partial.point.PartialPoint.TheVariants.{LoadSlot, TakeSlot, LoadTakenInfo, StoreOwner, LoadGrantAnchor, Grant, LoadOwner, PutSlot, LoadHeldSlot, RemoveFromSlot, LoadListedAnchor}
use Rattle.step_parts.specs.partial.Grants.{grant_more, granted, is_empty}
use Rattle.heap_geometry.specs.declared.geometry.Geometry.{Geometry}
use Rattle.word_table.specs.declared.limits.TheConstants.{MOST_CREDITS}
use Rattle.word_table.specs.Counts.{descriptor_count}

-- the seat that a point of a partial superblock is for
abbrev pub seat_of_partial : PartialPoint → SeatFields
seat_of_partial (LoadSlot s) = s
seat_of_partial (TakeSlot s d) = s
seat_of_partial (LoadTakenInfo s d) = s
seat_of_partial (StoreOwner at) = at.seat
seat_of_partial (LoadGrantAnchor at) = at.seat
seat_of_partial (Grant at a) = at.seat
seat_of_partial (LoadOwner s d) = s
seat_of_partial (PutSlot s d heap) = s
seat_of_partial (LoadHeldSlot s d heap) = s
seat_of_partial (RemoveFromSlot s d heap) = s
seat_of_partial (LoadListedAnchor s d) = s

-- the seat that an exit from a partial superblock is for
abbrev pub seat_of_partial_exit : PartialExit → SeatFields
seat_of_partial_exit (SlotEmpty s) = s
seat_of_partial_exit (Granted at more) = at.seat
seat_of_partial_exit (TookEmpty at) = at.seat
seat_of_partial_exit (SlotFilled s) = s
seat_of_partial_exit (Displaced s d) = s
seat_of_partial_exit (NotInSlot s) = s
seat_of_partial_exit (Removed s d) = s
seat_of_partial_exit (ListedEmpty s d) = s
seat_of_partial_exit (ListedPartial s d) = s

-- the slot of a processor heap, for the caller's class
abbrev pub slot_of : SeatFields → ℕ → WordName
slot_of s heap = name.Slot heap s.class

-- the action of a point
abbrev pub plan_partial_of : PartialPoint → Action
plan_partial_of (LoadSlot s) = Load (slot_name s)
plan_partial_of (TakeSlot s d) = Cas (slot_name s) (d + 1) 0
plan_partial_of (LoadTakenInfo s d) = Load (name.Info d)
plan_partial_of (StoreOwner at) = Store (name.Info at.desc) (info_word (info_at at))
plan_partial_of (LoadGrantAnchor at) = Load (name.Anchor at.desc)
plan_partial_of (Grant at a) = Cas (name.Anchor at.desc) (anchor_word a) (anchor_word (granted a))
plan_partial_of (LoadOwner s d) = Load (name.Info d)
plan_partial_of (PutSlot s d heap) = Swap (slot_of s heap) (d + 1)
plan_partial_of (LoadHeldSlot s d heap) = Load (slot_of s heap)
plan_partial_of (RemoveFromSlot s d heap) = Cas (slot_of s heap) (d + 1) 0
plan_partial_of (LoadListedAnchor s d) = Load (name.Anchor d)

-- the point after a slot was read that names a descriptor, for who takes it; it stays where the heap has no such one
abbrev pub after_kept : SeatFields → Option ℕ → PartialPoint
after_kept s None = LoadSlot s
after_kept s (Some d) = TakeSlot s d

-- the point or exit after the slot of the caller's processor heap was read
abbrev pub after_slot : SeatFields → ℕ → Onward PartialPoint PartialExit
after_slot s word = if word == 0 then Leaves (SlotEmpty s) else Stays (after_kept s (desc_named s.geometry word))

-- the point after the word of a taken descriptor was read
abbrev pub after_taken_info : SeatFields → ℕ → Option InfoFields → PartialPoint
after_taken_info s d None = LoadTakenInfo s d
after_taken_info s d (Some info) = StoreOwner (record { seat = s; desc = d; frame = info.frame })

-- the point after the anchor of a superblock that is not empty was read for a grant
abbrev pub after_live : Site → Option AnchorFields → PartialPoint
after_live at None = LoadGrantAnchor at
after_live at (Some a) = Grant at a

-- the point or exit after the anchor of a taken superblock was read, by all that it says, and by what is expected
abbrev pub after_grant_anchor : Site → AnchorFields → Option AnchorFields → Onward PartialPoint PartialExit
after_grant_anchor at a expected = if is_empty a.state then Leaves (TookEmpty at) else Stays (after_live at expected)

-- the point after the word of a descriptor was read whose superblock became partial
abbrev pub after_owner : SeatFields → ℕ → Option InfoFields → PartialPoint
after_owner s d None = LoadOwner s d
after_owner s d (Some info) = PutSlot s d info.heap

-- the point or exit after a superblock was put into a slot that named another one, by what the slot named
abbrev pub after_displaced : SeatFields → ℕ → ℕ → Option ℕ → Onward PartialPoint PartialExit
after_displaced s d heap None = Stays (PutSlot s d heap)
after_displaced s d heap (Some other) = Leaves (Displaced s other)

-- the point or exit after a superblock was put into a slot, by the word that stood there
abbrev pub after_put : SeatFields → ℕ → ℕ → ℕ → Onward PartialPoint PartialExit
after_put s d heap word =
    if word == 0 then Leaves (SlotFilled s) else after_displaced s d heap (desc_named s.geometry word)

-- the point or exit after the slot was read in which an empty superblock may stand
abbrev pub after_held_slot : SeatFields → ℕ → ℕ → ℕ → Onward PartialPoint PartialExit
after_held_slot s d heap word = if word == d + 1 then Stays (RemoveFromSlot s d heap) else Leaves (NotInSlot s)

-- the exit after the anchor of a superblock from the list was read
abbrev pub after_listed_anchor : SeatFields → ℕ → AnchorFields → PartialExit
after_listed_anchor s d a = if is_empty a.state then ListedEmpty s d else ListedPartial s d

-- the point or exit after a step at a point of a partial superblock, by what its action found
abbrev pub settle_partial_of : PartialPoint → Found → Onward PartialPoint PartialExit
settle_partial_of (LoadSlot s) x = after_slot s x.value
settle_partial_of (TakeSlot s d) x = Stays (if x.won then LoadTakenInfo s d else LoadSlot s)
settle_partial_of (LoadTakenInfo s d) x = Stays (after_taken_info s d (info_in s.geometry x.value))
settle_partial_of (StoreOwner at) x = Stays (LoadGrantAnchor at)
settle_partial_of (LoadGrantAnchor at) x =
    after_grant_anchor at (anchor_of x.value) (anchor_in at.seat.class x.value)
settle_partial_of (Grant at a) x =
    if x.won then Leaves (Granted at (grant_more a.count)) else Stays (LoadGrantAnchor at)
settle_partial_of (LoadOwner s d) x = Stays (after_owner s d (info_in s.geometry x.value))
settle_partial_of (PutSlot s d heap) x = after_put s d heap x.value
settle_partial_of (LoadHeldSlot s d heap) x = after_held_slot s d heap x.value
settle_partial_of (RemoveFromSlot s d heap) x = Leaves (if x.won then Removed s d else NotInSlot s)
settle_partial_of (LoadListedAnchor s d) x = Leaves (after_listed_anchor s d (anchor_of x.value))

-- a seat of this caller of this heap, a descriptor that the heap has, and the processor heap that its superblock was last taken for
pub record IsOwnedBy (g : Geometry) (caller : ℕ) (s : SeatFields) (d heap : ℕ) : Type 0 where
  pub seat : IsSeatOf g caller s
  pub desc : d < descriptor_count g
  pub owner : heap < g.heaps

-- the point is of this caller of this heap, and everything that it remembers exists there
abbrev pub FitsPartial : Geometry → ℕ → PartialPoint → Type 0
FitsPartial g caller (LoadSlot s) = IsSeatOf g caller s
FitsPartial g caller (TakeSlot s d) = IsDescOf g caller s d
FitsPartial g caller (LoadTakenInfo s d) = IsDescOf g caller s d
FitsPartial g caller (StoreOwner at) = IsSiteOf g caller at
FitsPartial g caller (LoadGrantAnchor at) = IsSiteOf g caller at
FitsPartial g caller (Grant at a) = IsSiteOf g caller at × IsAnchorOf at.seat.class a
FitsPartial g caller (LoadOwner s d) = IsDescOf g caller s d
FitsPartial g caller (PutSlot s d heap) = IsOwnedBy g caller s d heap
FitsPartial g caller (LoadHeldSlot s d heap) = IsOwnedBy g caller s d heap
FitsPartial g caller (RemoveFromSlot s d heap) = IsOwnedBy g caller s d heap
FitsPartial g caller (LoadListedAnchor s d) = IsDescOf g caller s d

-- the exit is of this caller of this heap, and everything that it remembers exists there
abbrev pub FitsPartialExit : Geometry → ℕ → PartialExit → Type 0
FitsPartialExit g caller (SlotEmpty s) = IsSeatOf g caller s
FitsPartialExit g caller (Granted at more) = IsSiteOf g caller at × (more ≤ MOST_CREDITS)
FitsPartialExit g caller (TookEmpty at) = IsSiteOf g caller at
FitsPartialExit g caller (SlotFilled s) = IsSeatOf g caller s
FitsPartialExit g caller (Displaced s d) = IsDescOf g caller s d
FitsPartialExit g caller (NotInSlot s) = IsSeatOf g caller s
FitsPartialExit g caller (Removed s d) = IsDescOf g caller s d
FitsPartialExit g caller (ListedEmpty s d) = IsDescOf g caller s d
FitsPartialExit g caller (ListedPartial s d) = IsDescOf g caller s d
