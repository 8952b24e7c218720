-- A caller at work on blocks of one size class, and what the words that it finds name.
use Rattle.std.specs.Prelude.{ℕ, ◌<◌, ◌-◌, ◌%◌, ◌&&◌, nat_lt, if◌then◌else◌, Option, Some, None}
use Rattle.heap_geometry.specs.declared.geometry.Geometry.{Geometry}
use Rattle.heap_geometry.specs.Geometry.{IsChecked}
use Rattle.heap_geometry.specs.Need.{block_count_of}
use Rattle.heap_geometry.specs.declared.limits.TheConstants.{CLASSES}
use Rattle.packed_words.specs.Anchor.{AnchorFields, anchor_of}
use Rattle.packed_words.specs.Fields.{is_within}
use Rattle.packed_words.specs.Info.{InfoFields, info_of}
use Rattle.word_table.specs.Counts.{descriptor_count}

-- a caller of a heap with these numbers, and the size class
pub record SeatFields : Type 0 where
  pub geometry : Geometry
  pub caller : ℕ
  pub class : ℕ

-- a seat exists: its heap's numbers are in range, the heap has the caller, and the class is one of the heap's
pub record IsSeat (s : SeatFields) : Type 0 where
  pub geometry : IsChecked s.geometry
  pub caller : s.caller < s.geometry.callers
  pub class : s.class < CLASSES

-- the processor heap that the caller uses
abbrev pub heap_of : SeatFields → ℕ
heap_of s = s.caller % s.geometry.heaps

-- the descriptor that a number names as its index plus 1
abbrev pub desc_named : Geometry → ℕ → Option ℕ
desc_named g number = if is_within 1 (descriptor_count g) number then Some (number - 1) else None

-- a descriptor's word, where the heap has the frame and the processor heap that it names
abbrev pub info_within : Geometry → Option InfoFields → Option InfoFields
info_within g None = None
info_within g (Some i) = if nat_lt i.frame g.frames && nat_lt i.heap g.heaps then Some i else None

-- what a descriptor's word says, where the heap has it
abbrev pub info_in : Geometry → ℕ → Option InfoFields
info_in g word = info_within g (info_of word)

-- the anchor that a word says, where its first available block is one of the class
abbrev pub anchor_in : ℕ → ℕ → Option AnchorFields
anchor_in class word =
    if nat_lt (anchor_of word).avail (block_count_of class) then Some (anchor_of word) else None
