-- The stacks of a heap: their words, and how the steps change a head.
use Rattle.std.specs.Prelude.{ℕ, ◌+◌, ◌%◌, ◌^◌}
use Rattle.heap_geometry.specs.declared.geometry.Geometry.{Geometry}
use Rattle.packed_words.specs.declared.widths.TheConstants.{TOP_BITS, HEAD_TAG_BITS}
use Rattle.packed_words.specs.Head.{HeadFields}
use Rattle.word_table.specs.declared.name.WordName.{WordName}
use Rattle.word_table.specs.declared.name.WordName.TheVariants.{FrameHead, FrameNext, ListHead, Next}
use Rattle.word_table.specs.Counts.{descriptor_count}
use Rattle.word_table.specs.Seats.{SeatFields}
use Rattle.step_parts.specs.declared.stack.point.Pile.{Pile}
use Rattle.step_parts.specs.declared.stack.point.Pile.TheVariants.{Frames, Partials}

-- the head of a stack
abbrev pub head_name : SeatFields → Pile → WordName
head_name s Frames = FrameHead
head_name s Partials = ListHead s.class

-- the word that says what lies below an index
abbrev pub next_name : Pile → ℕ → WordName
next_name Frames i = FrameNext i
next_name Partials i = Next i

-- how many indexes a heap has for a stack
abbrev pub pile_limit : Geometry → Pile → ℕ
pile_limit g Frames = g.frames
pile_limit g Partials = descriptor_count g

-- the head after a pop that leaves this on top
abbrev pub popped_head : HeadFields → ℕ → HeadFields
popped_head h below = record { top = below; tag = (h.tag + 1) % 2 ^ HEAD_TAG_BITS }

-- the head after a push of this index
abbrev pub pushed_head : HeadFields → ℕ → HeadFields
pushed_head h i = record { top = (i + 1) % 2 ^ TOP_BITS; tag = h.tag }
