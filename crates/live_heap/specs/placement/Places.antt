-- The place of each word in memory, and the words that stand at those places.
use Rattle.std.specs.Prelude.{ℕ, zero, suc, ◌+◌, ◌-◌, ◌*◌, min, List, [], ◌∷◌, slice_index}
use Rattle.heap_geometry.specs.declared.geometry.Geometry.{Geometry}
use Rattle.heap_geometry.specs.declared.limits.TheConstants.{CLASSES}
use Rattle.word_table.specs.Counts.{descriptor_count, word_count}
use Rattle.word_table.specs.Table.{word_index}
use Rattle.word_table.specs.declared.name.WordName.{WordName}
use Rattle.word_table.specs.declared.name.WordName.TheVariants.{Arena, Anchor, Next, Info, Active, Slot, ListHead, FrameNext, FrameHead, DescHead, Hazard, Units, Shelf}
use Rattle.live_heap.specs.declared.placement.Stretch.{Stretch}
use Rattle.live_heap.specs.declared.placement.TheConstants.{APART}

-- the stretch of the anchors
abbrev pub stretch_of_superblocks : Geometry → Stretch
stretch_of_superblocks g = record { before = word_index g (Anchor 0) - 1; gaps = descriptor_count g + 1 }

-- the stretch of the active words, the slots and the heads of the lists
abbrev pub stretch_of_heaps : Geometry → Stretch
stretch_of_heaps g = record { before = word_index g (Active 0 0) - 1; gaps = 2 * (g.heaps * CLASSES) + CLASSES + 1 }

-- the stretch of the heads of the frames and of the descriptors, the hazard words, and the word of the units
abbrev pub stretch_of_heads : Geometry → Stretch
stretch_of_heads g = record { before = word_index g FrameHead - 1; gaps = g.callers + 3 + 1 }

-- how many gaps of a stretch lie before a number
abbrev pub passed : Stretch → ℕ → ℕ
passed s index = min (index - s.before) s.gaps

-- the place of a number: behind all words before it and all gaps among them
unfoldable pub place : Geometry → ℕ → ℕ
place g index =
    index + (APART - 1) * (passed (stretch_of_superblocks g) index + passed (stretch_of_heaps g) index + passed (stretch_of_heads g) index)

-- a word that callers change again and again
abbrev pub IsApart : WordName → Type 0
IsApart (Arena word) = ⊥
IsApart (Anchor desc) = Unit {0}
IsApart (Next desc) = ⊥
IsApart (Info desc) = ⊥
IsApart (Active heap class) = Unit {0}
IsApart (Slot heap class) = Unit {0}
IsApart (ListHead class) = Unit {0}
IsApart (FrameNext frame) = ⊥
IsApart FrameHead = Unit {0}
IsApart DescHead = Unit {0}
IsApart (Hazard caller) = Unit {0}
IsApart Units = Unit {0}
IsApart (Shelf shelf) = ⊥

-- how many words lie in memory
abbrev pub placed_count : Geometry → ℕ
placed_count g = place g (word_count g)

-- the words at the places of so many numbers, from one on
unfoldable pub words_from : Geometry → List ℕ → ℕ → ℕ → List ℕ
words_from g placed index zero = []
words_from g placed index (suc more) = slice_index placed (place g index) ∷ words_from g placed (suc index) more

-- the table: the words at the places of all numbers
abbrev pub words_at : Geometry → List ℕ → List ℕ
words_at g placed = words_from g placed 0 (word_count g)
