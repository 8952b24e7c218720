-- What each point does, where it leads, and that what a point or an exit remembers exists in its heap.
use Rattle.std.specs.Prelude.{ℕ, Option, Some, None, List, ◌+◌, ◌==◌, nat_lt, nat_le, slice_set, if◌then◌else◌, length, ◌≡◌, ◌<◌, ◌≤◌}
use Rattle.heap_geometry.specs.declared.geometry.Geometry.{Geometry}
use Rattle.word_table.specs.declared.action.Action.{Action}
use Rattle.word_table.specs.declared.action.Action.TheVariants.{Load, Store, Cas}
use Rattle.word_table.specs.declared.action.Found.{Found}
use Rattle.word_table.specs.declared.name.WordName.TheVariants as name
use Rattle.word_table.specs.declared.onward.Onward.{Onward}
use Rattle.word_table.specs.declared.onward.Onward.TheVariants.{Stays, Leaves}
use Rattle.word_table.specs.Counts.{descriptor_count}
use Rattle.word_table.specs.Seats.{SeatFields, desc_named}
use Rattle.step_parts.specs.declared.hazard.exit.DescExit.{DescExit}
use Rattle.step_parts.specs.declared.hazard.exit.DescExit.TheVariants.{Got, Cleared, Scanned, Pushed}
use Rattle.step_parts.specs.declared.hazard.point.DescPoint.{DescPoint}
use Rattle.step_parts.specs.declared.hazard.point.DescPoint.TheVariants.{LoadDescHead, StoreHazard, ReloadDescHead, LoadNextDesc, PopDesc, ClearAfterPop, ClearHazard, ReadHazard, LoadHeadToPush, StoreNextDesc, PushDesc}
use Rattle.word_table.specs.Sites.{IsSeatOf, IsDescOf}
use Rattle.step_parts.specs.declared.hazard.limits.TheConstants.{HELD_MOST}

-- the seat that a point of the descriptors or the hazard words is for
abbrev pub seat_of_desc : DescPoint → SeatFields
seat_of_desc (LoadDescHead s) = s
seat_of_desc (StoreHazard s d) = s
seat_of_desc (ReloadDescHead s d) = s
seat_of_desc (LoadNextDesc s d) = s
seat_of_desc (PopDesc s d next) = s
seat_of_desc (ClearAfterPop s d) = s
seat_of_desc (ClearHazard s) = s
seat_of_desc (ReadHazard s held at) = s
seat_of_desc (LoadHeadToPush s d) = s
seat_of_desc (StoreNextDesc s d top) = s
seat_of_desc (PushDesc s d top) = s

-- the seat that an exit from the descriptors or the hazard words is for
abbrev pub seat_of_desc_exit : DescExit → SeatFields
seat_of_desc_exit (Got s d) = s
seat_of_desc_exit (Cleared s) = s
seat_of_desc_exit (Scanned s held) = s
seat_of_desc_exit (Pushed s d) = s

-- the action of a point
abbrev pub plan_desc_of : DescPoint → Action
plan_desc_of (LoadDescHead s) = Load name.DescHead
plan_desc_of (StoreHazard s d) = Store (name.Hazard s.caller) (d + 1)
plan_desc_of (ReloadDescHead s d) = Load name.DescHead
plan_desc_of (LoadNextDesc s d) = Load (name.Next d)
plan_desc_of (PopDesc s d next) = Cas name.DescHead (d + 1) next
plan_desc_of (ClearAfterPop s d) = Store (name.Hazard s.caller) 0
plan_desc_of (ClearHazard s) = Store (name.Hazard s.caller) 0
plan_desc_of (ReadHazard s held at) = Load (name.Hazard at)
plan_desc_of (LoadHeadToPush s d) = Load name.DescHead
plan_desc_of (StoreNextDesc s d top) = Store (name.Next d) top
plan_desc_of (PushDesc s d top) = Cas name.DescHead top (d + 1)

-- a word that is 0 or names a descriptor that the heap has, by its index plus 1
abbrev pub link_in : Geometry → ℕ → Option ℕ
link_in g word = if nat_le word (descriptor_count g) then Some word else None

-- the index plus 1 of the descriptor that a hazard word names, if the heap has it; else 0
abbrev pub named_in : Geometry → ℕ → ℕ
named_in g word = if nat_le word (descriptor_count g) then word else 0

-- the point after the head of the descriptors was read; it stays where the head names no descriptor that the heap has
abbrev pub after_head : SeatFields → Option ℕ → DescPoint
after_head s None = LoadDescHead s
after_head s (Some d) = StoreHazard s d

-- the point after the head was read again: on where the descriptor is still the top one
abbrev pub after_reload : SeatFields → ℕ → ℕ → DescPoint
after_reload s d word = if word == d + 1 then LoadNextDesc s d else LoadDescHead s

-- the point after the name of the descriptor below was read; it stays where the name is neither 0 nor one that the heap has
abbrev pub after_next : SeatFields → ℕ → Option ℕ → DescPoint
after_next s d None = LoadNextDesc s d
after_next s d (Some next) = PopDesc s d next

-- the point or exit after a caller's hazard word was read: the next caller's, until each is read; what it names is noted
abbrev pub after_hazard : SeatFields → List ℕ → ℕ → ℕ → Onward DescPoint DescExit
after_hazard s held at word =
    if nat_lt (at + 1) s.geometry.callers
    then Stays (ReadHazard s (slice_set held at (named_in s.geometry word)) (at + 1))
    else Leaves (Scanned s (slice_set held at (named_in s.geometry word)))

-- the point after the head was read for a push; it stays where the head is neither 0 nor the name of one that the heap has
abbrev pub after_top : SeatFields → ℕ → Option ℕ → DescPoint
after_top s d None = LoadHeadToPush s d
after_top s d (Some top) = StoreNextDesc s d top

-- the point or exit after a step at a point of the descriptors or the hazard words, by what its action found
abbrev pub settle_desc_of : DescPoint → Found → Onward DescPoint DescExit
settle_desc_of (LoadDescHead s) x = Stays (after_head s (desc_named s.geometry x.value))
settle_desc_of (StoreHazard s d) x = Stays (ReloadDescHead s d)
settle_desc_of (ReloadDescHead s d) x = Stays (after_reload s d x.value)
settle_desc_of (LoadNextDesc s d) x = Stays (after_next s d (link_in s.geometry x.value))
settle_desc_of (PopDesc s d next) x = Stays (if x.won then ClearAfterPop s d else LoadDescHead s)
settle_desc_of (ClearAfterPop s d) x = Leaves (Got s d)
settle_desc_of (ClearHazard s) x = Leaves (Cleared s)
settle_desc_of (ReadHazard s held at) x = after_hazard s held at x.value
settle_desc_of (LoadHeadToPush s d) x = Stays (after_top s d (link_in s.geometry x.value))
settle_desc_of (StoreNextDesc s d top) x = Stays (PushDesc s d top)
settle_desc_of (PushDesc s d top) x = if x.won then Leaves (Pushed s d) else Stays (LoadHeadToPush s d)

-- a seat of this caller of this heap, a descriptor that the heap has, and a word that is 0 or names one, by its index plus 1
pub record IsLinkOf (g : Geometry) (caller : ℕ) (s : SeatFields) (d word : ℕ) : Type 0 where
  pub desc : IsDescOf g caller s d
  pub link : word ≤ descriptor_count g

-- a seat of this caller of this heap, and what the hazard words named that were read
pub record IsScanOf (g : Geometry) (caller : ℕ) (s : SeatFields) (held : List ℕ) : Type 0 where
  pub seat : IsSeatOf g caller s
  pub words : length held ≡ HELD_MOST

-- the point is of this caller of this heap, and everything that it remembers exists there
abbrev pub FitsDesc : Geometry → ℕ → DescPoint → Type 0
FitsDesc g caller (LoadDescHead s) = IsSeatOf g caller s
FitsDesc g caller (StoreHazard s d) = IsDescOf g caller s d
FitsDesc g caller (ReloadDescHead s d) = IsDescOf g caller s d
FitsDesc g caller (LoadNextDesc s d) = IsDescOf g caller s d
FitsDesc g caller (PopDesc s d next) = IsLinkOf g caller s d next
FitsDesc g caller (ClearAfterPop s d) = IsDescOf g caller s d
FitsDesc g caller (ClearHazard s) = IsSeatOf g caller s
FitsDesc g caller (ReadHazard s held at) = IsScanOf g caller s held × (at < g.callers)
FitsDesc g caller (LoadHeadToPush s d) = IsDescOf g caller s d
FitsDesc g caller (StoreNextDesc s d top) = IsLinkOf g caller s d top
FitsDesc g caller (PushDesc s d top) = IsLinkOf g caller s d top

-- the exit is of this caller of this heap, and everything that it remembers exists there
abbrev pub FitsDescExit : Geometry → ℕ → DescExit → Type 0
FitsDescExit g caller (Got s d) = IsDescOf g caller s d
FitsDescExit g caller (Cleared s) = IsSeatOf g caller s
FitsDescExit g caller (Scanned s held) = IsScanOf g caller s held
FitsDescExit g caller (Pushed s d) = IsDescOf g caller s d
