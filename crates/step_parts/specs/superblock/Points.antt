-- What each point does, where it leads, and that what a point or an exit remembers exists in its heap.
use Rattle.std.specs.Prelude.{ℕ, Bool, true, false, Option, Some, None, ◌+◌, ◌-◌, ◌==◌, nat_lt, if◌then◌else◌, ◌<◌, ◌≤◌, ◌^◌, IsTrue}
use Rattle.heap_geometry.specs.Need.{block_count_of}
use Rattle.heap_geometry.specs.Place.{block_place}
use Rattle.packed_words.specs.declared.active.ActiveWord.{ActiveWord}
use Rattle.packed_words.specs.declared.active.ActiveWord.TheVariants.{Null, Held}
use Rattle.packed_words.specs.declared.anchor.AnchorState.{AnchorState}
use Rattle.packed_words.specs.declared.anchor.AnchorState.TheVariants as state
use Rattle.packed_words.specs.declared.prefix.Prefix.{Prefix}
use Rattle.packed_words.specs.declared.prefix.Prefix.TheVariants.{Small, Large}
use Rattle.packed_words.specs.Active.{active_word, active_of}
use Rattle.packed_words.specs.Anchor.{AnchorFields, anchor_word}
use Rattle.packed_words.specs.Info.{InfoFields, info_word}
use Rattle.packed_words.specs.Prefix.{prefix_word, prefix_of, link_of}
use Rattle.word_table.specs.declared.action.Action.{Action}
use Rattle.word_table.specs.declared.action.Action.TheVariants.{Load, Store, Cas}
use Rattle.word_table.specs.declared.action.Found.{Found}
use Rattle.word_table.specs.declared.name.WordName.TheVariants as name
use Rattle.word_table.specs.declared.onward.Onward.{Onward}
use Rattle.word_table.specs.declared.onward.Onward.TheVariants.{Stays, Leaves}
use Rattle.word_table.specs.declared.seat.Site.{Site}
use Rattle.word_table.specs.Counts.{descriptor_count}
use Rattle.word_table.specs.Seats.{SeatFields, info_in, anchor_in}
use Rattle.word_table.specs.Sites.{info_at, active_name, block_name, IsSeatOf, IsSiteOf, IsAnchorOf}
use Rattle.step_parts.specs.declared.superblock.point.Share.{Share}
use Rattle.step_parts.specs.declared.superblock.point.Share.TheVariants.{Credit, LastCredit, Grant}
use Rattle.step_parts.specs.declared.superblock.point.BlockPoint.{BlockPoint}
use Rattle.step_parts.specs.declared.superblock.point.BlockPoint.TheVariants.{LoadActive, TakeCredit, LoadInfo, LoadAnchor, LoadLink, PopBlock, StorePrefix, InstallCredits, InstallSuperblock, LoadReturn, ReturnCredits, LoadPrefix, LoadPushAnchor, StoreGuard, LoadOwner, StoreLink, PushBlock, LinkBlock, StoreInfo, StoreAnchor}
use Rattle.step_parts.specs.declared.superblock.exit.BlockExit.{BlockExit}
use Rattle.step_parts.specs.declared.superblock.exit.BlockExit.TheVariants.{WantsPartial, Returned, Discarded, Given, BecameEmpty, BecamePartial, Pushed}
use Rattle.step_parts.specs.superblock.Anchors.{popped, more_of, returned, is_last, pushed, new_credits, new_anchor, new_link}
use Rattle.heap_geometry.specs.declared.geometry.Geometry.{Geometry}
use Rattle.heap_geometry.specs.Geometry.{IsWithin}
use Rattle.packed_words.specs.declared.widths.TheConstants.{CREDIT_BITS}
use Rattle.word_table.specs.declared.limits.TheConstants.{MOST_CREDITS}

-- the seat that a point of a superblock is for
abbrev pub seat_of_block : BlockPoint → SeatFields
seat_of_block (LoadActive s) = s
seat_of_block (TakeCredit s d credits) = s
seat_of_block (LoadInfo s d share) = s
seat_of_block (LoadAnchor at share) = at.seat
seat_of_block (LoadLink at share a) = at.seat
seat_of_block (PopBlock at share a prefix) = at.seat
seat_of_block (StorePrefix at i) = at.seat
seat_of_block (InstallCredits at i more) = at.seat
seat_of_block (InstallSuperblock at) = at.seat
seat_of_block (LoadReturn at i more) = at.seat
seat_of_block (ReturnCredits at i more a) = at.seat
seat_of_block (LoadPrefix s frame i) = s
seat_of_block (LoadPushAnchor at i stored) = at.seat
seat_of_block (StoreGuard at i a) = at.seat
seat_of_block (LoadOwner at i a) = at.seat
seat_of_block (StoreLink at i a stored heap) = at.seat
seat_of_block (PushBlock at i a stored heap) = at.seat
seat_of_block (LinkBlock at i) = at.seat
seat_of_block (StoreInfo at) = at.seat
seat_of_block (StoreAnchor at) = at.seat

-- the seat that an exit from a superblock is for
abbrev pub seat_of_block_exit : BlockExit → SeatFields
seat_of_block_exit (WantsPartial s) = s
seat_of_block_exit (Returned at i) = at.seat
seat_of_block_exit (Discarded at) = at.seat
seat_of_block_exit (Given at i) = at.seat
seat_of_block_exit (BecameEmpty at heap) = at.seat
seat_of_block_exit (BecamePartial at stored) = at.seat
seat_of_block_exit (Pushed s stored) = s

-- the active word with one credit less, or null after the last
abbrev pub credit_taken : ℕ → ℕ → ℕ
credit_taken d credits = if credits == 0 then active_word Null else active_word (Held d (credits - 1))

-- the action of a point
abbrev pub plan_block_of : BlockPoint → Action
plan_block_of (LoadActive s) = Load (active_name s)
plan_block_of (TakeCredit s d credits) = Cas (active_name s) (active_word (Held d credits)) (credit_taken d credits)
plan_block_of (LoadInfo s d share) = Load (name.Info d)
plan_block_of (LoadAnchor at share) = Load (name.Anchor at.desc)
plan_block_of (LoadLink at share a) = Load (block_name at a.avail)
plan_block_of (PopBlock at share a prefix) =
    Cas (name.Anchor at.desc) (anchor_word a) (anchor_word (popped share a (link_of prefix)))
plan_block_of (StorePrefix at i) = Store (block_name at i) (prefix_word (Small at.desc))
plan_block_of (InstallCredits at i more) =
    Cas (active_name at.seat) (active_word Null) (active_word (Held at.desc (more - 1)))
plan_block_of (InstallSuperblock at) =
    Cas (active_name at.seat) (active_word Null) (active_word (Held at.desc (new_credits at.seat.class)))
plan_block_of (LoadReturn at i more) = Load (name.Anchor at.desc)
plan_block_of (ReturnCredits at i more a) =
    Cas (name.Anchor at.desc) (anchor_word a) (anchor_word (returned more a))
plan_block_of (LoadPrefix s frame i) = Load (name.Arena (block_place frame s.class i))
plan_block_of (LoadPushAnchor at i stored) = Load (name.Anchor at.desc)
plan_block_of (StoreGuard at i a) = Store (name.Hazard at.seat.caller) (at.desc + 1)
plan_block_of (LoadOwner at i a) = Load (name.Info at.desc)
plan_block_of (StoreLink at i a stored heap) = Store (block_name at i) a.avail
plan_block_of (PushBlock at i a stored heap) =
    Cas (name.Anchor at.desc) (anchor_word a) (anchor_word (pushed at.seat.class i a))
plan_block_of (LinkBlock at i) = Store (block_name at i) (new_link at.seat.class i)
plan_block_of (StoreInfo at) = Store (name.Info at.desc) (info_word (info_at at))
plan_block_of (StoreAnchor at) = Store (name.Anchor at.desc) (anchor_word (new_anchor at.seat.class))

-- the point or exit after an active word was read; the point stays where the heap has no such descriptor
abbrev pub after_active : SeatFields → Option ActiveWord → Onward BlockPoint BlockExit
after_active s None = Stays (LoadActive s)
after_active s (Some Null) = Leaves (WantsPartial s)
after_active s (Some (Held d credits)) =
    Stays (if nat_lt d (descriptor_count s.geometry) then TakeCredit s d credits else LoadActive s)

-- the point after a descriptor's word was read
abbrev pub after_info : SeatFields → ℕ → Share → Option InfoFields → BlockPoint
after_info s d share None = LoadInfo s d share
after_info s d share (Some info) = LoadAnchor (record { seat = s; desc = d; frame = info.frame }) share

-- the point after an anchor was read for a pop
abbrev pub after_anchor : Site → Share → Option AnchorFields → BlockPoint
after_anchor at share None = LoadAnchor at share
after_anchor at share (Some a) = LoadLink at share a

-- the point after a pop
abbrev pub after_pop : Site → ℕ → ℕ → BlockPoint
after_pop at i more = if nat_lt 0 more then InstallCredits at i more else StorePrefix at i

-- the point after an anchor was read for a return
abbrev pub after_return_anchor : Site → ℕ → ℕ → Option AnchorFields → BlockPoint
after_return_anchor at i more None = LoadReturn at i more
after_return_anchor at i more (Some a) = ReturnCredits at i more a

-- the point after the prefix word of a freed block was read
abbrev pub after_prefix : SeatFields → ℕ → ℕ → Option Prefix → BlockPoint
after_prefix s frame i None = LoadPrefix s frame i
after_prefix s frame i (Some (Large units)) = LoadPrefix s frame i
after_prefix s frame i (Some (Small d)) =
    if nat_lt d (descriptor_count s.geometry)
    then LoadPushAnchor (record { seat = s; desc = d; frame = frame }) i false
    else LoadPrefix s frame i

-- the point after an anchor was read for a push
abbrev pub after_push_anchor : Site → ℕ → Bool → Option AnchorFields → BlockPoint
after_push_anchor at i stored None = LoadPushAnchor at i stored
after_push_anchor at i stored (Some a) =
    if is_last at.seat.class a then StoreGuard at i a else StoreLink at i a stored 0

-- the point after the word of a guarded descriptor was read
abbrev pub after_owner : Site → ℕ → AnchorFields → Option InfoFields → BlockPoint
after_owner at i a None = LoadOwner at i a
after_owner at i a (Some info) = StoreLink at i a true info.heap

-- the exit of a push that does not make the superblock empty, by the state before it
abbrev pub after_push_to : Site → Bool → AnchorState → BlockExit
after_push_to at stored state.Active = Pushed at.seat stored
after_push_to at stored state.Full = BecamePartial at stored
after_push_to at stored state.Partial = Pushed at.seat stored
after_push_to at stored state.Empty = Pushed at.seat stored

-- the exit of a push
abbrev pub after_push : Site → AnchorFields → Bool → ℕ → BlockExit
after_push at a stored heap = if is_last at.seat.class a then BecameEmpty at heap else after_push_to at stored a.state

-- the point after a block of a new superblock was linked
abbrev pub after_link : Site → ℕ → BlockPoint
after_link at i = if nat_lt (i + 1) (block_count_of at.seat.class) then LinkBlock at (i + 1) else StoreInfo at

-- the point or exit after a step at a point of a superblock, by what its action found
abbrev pub settle_block_of : BlockPoint → Found → Onward BlockPoint BlockExit
settle_block_of (LoadActive s) x = after_active s (active_of x.value)
settle_block_of (TakeCredit s d credits) x =
    Stays (if x.won then LoadInfo s d (if credits == 0 then LastCredit else Credit) else LoadActive s)
settle_block_of (LoadInfo s d share) x = Stays (after_info s d share (info_in s.geometry x.value))
settle_block_of (LoadAnchor at share) x = Stays (after_anchor at share (anchor_in at.seat.class x.value))
settle_block_of (LoadLink at share a) x = Stays (PopBlock at share a x.value)
settle_block_of (PopBlock at share a prefix) x =
    Stays (if x.won then after_pop at a.avail (more_of share a) else LoadAnchor at share)
settle_block_of (StorePrefix at i) x = Leaves (Given at i)
settle_block_of (InstallCredits at i more) x = Stays (if x.won then StorePrefix at i else LoadReturn at i more)
settle_block_of (InstallSuperblock at) x = if x.won then Stays (StorePrefix at 0) else Leaves (Discarded at)
settle_block_of (LoadReturn at i more) x =
    Stays (after_return_anchor at i more (anchor_in at.seat.class x.value))
settle_block_of (ReturnCredits at i more a) x =
    if x.won then Leaves (Returned at i) else Stays (LoadReturn at i more)
settle_block_of (LoadPrefix s frame i) x = Stays (after_prefix s frame i (prefix_of x.value))
settle_block_of (LoadPushAnchor at i stored) x =
    Stays (after_push_anchor at i stored (anchor_in at.seat.class x.value))
settle_block_of (StoreGuard at i a) x = Stays (LoadOwner at i a)
settle_block_of (LoadOwner at i a) x = Stays (after_owner at i a (info_in at.seat.geometry x.value))
settle_block_of (StoreLink at i a stored heap) x = Stays (PushBlock at i a stored heap)
settle_block_of (PushBlock at i a stored heap) x =
    if x.won then Leaves (after_push at a stored heap) else Stays (LoadPushAnchor at i stored)
settle_block_of (LinkBlock at i) x = Stays (after_link at i)
settle_block_of (StoreInfo at) x = Stays (StoreAnchor at)
settle_block_of (StoreAnchor at) x = Stays (InstallSuperblock at)

-- a seat of this caller of this heap, and a descriptor that the heap has
pub record IsHeldBy (g : Geometry) (caller : ℕ) (s : SeatFields) (d : ℕ) : Type 0 where
  pub seat : IsSeatOf g caller s
  pub desc : d < descriptor_count g

-- a block of a superblock that the caller has at hand
pub record IsBlockOf (g : Geometry) (caller : ℕ) (at : Site) (i : ℕ) : Type 0 where
  pub site : IsSiteOf g caller at
  pub index : i < block_count_of at.seat.class

-- a grant is no greater than what an active word can offer
abbrev pub IsShare : Share → Type 0
IsShare Credit = Unit {0}
IsShare LastCredit = Unit {0}
IsShare (Grant more) = more ≤ MOST_CREDITS

-- a superblock at hand, what its pop pays with, and the anchor that was read
pub record IsPop (g : Geometry) (caller : ℕ) (at : Site) (share : Share) (a : AnchorFields) : Type 0 where
  pub site : IsSiteOf g caller at
  pub paid : IsShare share
  pub anchor : IsAnchorOf at.seat.class a

-- a block that is freed, the anchor that was read, and the heap; a push that empties the superblock has its hazard word stored
pub record IsPush (g : Geometry) (caller : ℕ) (at : Site) (i : ℕ) (a : AnchorFields) (stored : Bool) (heap : ℕ) : Type 0 where
  pub block : IsBlockOf g caller at i
  pub anchor : IsAnchorOf at.seat.class a
  pub owner : heap < g.heaps
  pub before_last : IsTrue (is_last at.seat.class a) → IsTrue stored

-- a block whose push makes its superblock empty
pub record IsLastPush (g : Geometry) (caller : ℕ) (at : Site) (i : ℕ) (a : AnchorFields) : Type 0 where
  pub block : IsBlockOf g caller at i
  pub anchor : IsAnchorOf at.seat.class a
  pub last : IsTrue (is_last at.seat.class a)

-- the point is of this caller of this heap, and everything that it remembers exists there
abbrev pub FitsBlock : Geometry → ℕ → BlockPoint → Type 0
FitsBlock g caller (LoadActive s) = IsSeatOf g caller s
FitsBlock g caller (TakeCredit s d credits) = IsHeldBy g caller s d × (credits < 2 ^ CREDIT_BITS)
FitsBlock g caller (LoadInfo s d share) = IsHeldBy g caller s d × IsShare share
FitsBlock g caller (LoadAnchor at share) = IsSiteOf g caller at × IsShare share
FitsBlock g caller (LoadLink at share a) = IsPop g caller at share a
FitsBlock g caller (PopBlock at share a prefix) = IsPop g caller at share a
FitsBlock g caller (StorePrefix at i) = IsBlockOf g caller at i
FitsBlock g caller (InstallCredits at i more) = IsBlockOf g caller at i × IsWithin 1 MOST_CREDITS more
FitsBlock g caller (InstallSuperblock at) = IsSiteOf g caller at
FitsBlock g caller (LoadReturn at i more) = IsBlockOf g caller at i × IsWithin 1 MOST_CREDITS more
FitsBlock g caller (ReturnCredits at i more a) =
    IsBlockOf g caller at i × IsWithin 1 MOST_CREDITS more × IsAnchorOf at.seat.class a
FitsBlock g caller (LoadPrefix s frame i) = IsSeatOf g caller s × (frame < g.frames) × (i < block_count_of s.class)
FitsBlock g caller (LoadPushAnchor at i stored) = IsBlockOf g caller at i
FitsBlock g caller (StoreGuard at i a) = IsLastPush g caller at i a
FitsBlock g caller (LoadOwner at i a) = IsLastPush g caller at i a
FitsBlock g caller (StoreLink at i a stored heap) = IsPush g caller at i a stored heap
FitsBlock g caller (PushBlock at i a stored heap) = IsPush g caller at i a stored heap
FitsBlock g caller (LinkBlock at i) = IsBlockOf g caller at i
FitsBlock g caller (StoreInfo at) = IsSiteOf g caller at
FitsBlock g caller (StoreAnchor at) = IsSiteOf g caller at

-- the exit is of this caller of this heap, and everything that it remembers exists there
abbrev pub FitsBlockExit : Geometry → ℕ → BlockExit → Type 0
FitsBlockExit g caller (WantsPartial s) = IsSeatOf g caller s
FitsBlockExit g caller (Returned at i) = IsBlockOf g caller at i
FitsBlockExit g caller (Discarded at) = IsSiteOf g caller at
FitsBlockExit g caller (Given at i) = IsBlockOf g caller at i
FitsBlockExit g caller (BecameEmpty at heap) = IsSiteOf g caller at × (heap < g.heaps)
FitsBlockExit g caller (BecamePartial at stored) = IsSiteOf g caller at
FitsBlockExit g caller (Pushed s stored) = IsSeatOf g caller s
