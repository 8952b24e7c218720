-- Which pieces nobody uses.
use Rattle.std.specs.Prelude.{ℕ, ◌≡◌, ◌<◌, ◌≤◌, ◌-◌, ◌⊎◌, List}
use Rattle.std.specs.Int.{bit_at}
use Rattle.heap_geometry.specs.declared.geometry.Geometry.{Geometry}
use Rattle.packed_words.specs.Head.{head_of}
use Rattle.word_table.specs.Occurs.{occurs}
use Rattle.word_table.specs.declared.name.WordName.{WordName}
use Rattle.word_table.specs.declared.name.WordName.TheVariants as name
use Rattle.step_parts.specs.stack.Stacks.{Stacked, next_in}
use Rattle.step_parts.specs.declared.stack.point.Pile.TheVariants.{Frames}

-- the frame stands on the stack of free frames that these words make
abbrev pub IsFreeFrame : (WordName → ℕ) → ℕ → Type 0
IsFreeFrame words f = (xs : List ℕ) × Stacked (next_in words Frames) (head_of (words name.FrameHead)).top xs × (0 < occurs f xs)

-- nobody uses the piece, by these words: it is a free frame, or a unit that no run has
abbrev pub IsUnused : Geometry → (WordName → ℕ) → ℕ → Type 0
IsUnused g words k = ((k < g.frames) × IsFreeFrame words k) ⊎ ((g.frames ≤ k) × (bit_at (words name.Units) (k - g.frames) ≡ 0))
