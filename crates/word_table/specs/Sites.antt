-- Superblocks at hand, the names of their words, and which of them a heap has.
use Rattle.std.specs.Prelude.{ℕ, ◌≡◌, ◌<◌}
use Rattle.heap_geometry.specs.declared.geometry.Geometry.{Geometry}
use Rattle.heap_geometry.specs.declared.limits.TheConstants.{CLASSES}
use Rattle.heap_geometry.specs.Need.{block_count_of}
use Rattle.heap_geometry.specs.Place.{block_place}
use Rattle.packed_words.specs.Anchor.{AnchorFields, IsAnchor}
use Rattle.packed_words.specs.Info.{InfoFields}
use Rattle.word_table.specs.Counts.{descriptor_count}
use Rattle.word_table.specs.Seats.{SeatFields, heap_of}
use Rattle.word_table.specs.declared.name.WordName.{WordName}
use Rattle.word_table.specs.declared.name.WordName.TheVariants.{Arena, Active, Slot}
use Rattle.word_table.specs.declared.seat.Site.{Site}

-- what a superblock's descriptor says of it
abbrev pub info_at : Site → InfoFields
info_at at = record { frame = at.frame; heap = heap_of at.seat; class = at.seat.class }

-- the active word of the caller's processor heap and class
abbrev pub active_name : SeatFields → WordName
active_name s = Active (heap_of s) s.class

-- the slot of the caller's processor heap and class
abbrev pub slot_name : SeatFields → WordName
slot_name s = Slot (heap_of s) s.class

-- the prefix word of one of a superblock's blocks
abbrev pub block_name : Site → ℕ → WordName
block_name at index = Arena (block_place at.frame at.seat.class index)

-- the seat is of this caller of this heap
pub record IsSeatOf (g : Geometry) (caller : ℕ) (s : SeatFields) : Type 0 where
  pub geometry : s.geometry ≡ g
  pub number : s.caller ≡ caller
  pub class : s.class < CLASSES

-- a seat of this caller of this heap, and a descriptor that the heap has
pub record IsDescOf (g : Geometry) (caller : ℕ) (s : SeatFields) (d : ℕ) : Type 0 where
  pub seat : IsSeatOf g caller s
  pub desc : d < descriptor_count g

-- the superblock is at hand for this caller, and this heap has its descriptor and its frame
pub record IsSiteOf (g : Geometry) (caller : ℕ) (at : Site) : Type 0 where
  pub seat : IsSeatOf g caller at.seat
  pub desc : at.desc < descriptor_count g
  pub frame : at.frame < g.frames

-- the anchor's numbers fit, and its first available block is one of the class
pub record IsAnchorOf (class : ℕ) (a : AnchorFields) : Type 0 where
  pub fits : IsAnchor a
  pub avail : a.avail < block_count_of class
