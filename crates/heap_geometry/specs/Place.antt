-- Where blocks lie in the arena.
use Rattle.std.specs.Prelude.{ℕ, ◌+◌, ◌-◌, ◌*◌, ◌/◌, ◌%◌, ◌<◌, ◌≤◌, ◌≡◌, ◌⊎◌}
use Rattle.heap_geometry.specs.Need.{block_words_of, block_count_of}
use Rattle.heap_geometry.specs.declared.limits.TheConstants.{FRAME_WORDS, UNIT_WORDS, MAX_FRAMES}

-- the place of a frame's block
abbrev pub block_place : ℕ → ℕ → ℕ → ℕ
block_place frame class index = FRAME_WORDS * frame + index * block_words_of class

-- the first word of a unit behind so many frames
abbrev pub unit_place : ℕ → ℕ → ℕ
unit_place frames unit = FRAME_WORDS * frames + UNIT_WORDS * unit

-- the unit behind so many frames in which a place lies
abbrev pub unit_of : ℕ → ℕ → ℕ
unit_of frames place = (place - FRAME_WORDS * frames) / UNIT_WORDS

-- the frame in which a place lies
abbrev pub frame_of : ℕ → ℕ
frame_of place = place / FRAME_WORDS

-- the index in its frame of the block of a class that lies at a place
abbrev pub index_of : ℕ → ℕ → ℕ
index_of class place = place % FRAME_WORDS / block_words_of class

-- a block of the class lies at the place
abbrev pub IsBlockPlace : ℕ → ℕ → Type 0
IsBlockPlace class place =
    (frame : ℕ) × (index : ℕ) × (frame < MAX_FRAMES) × (index < block_count_of class) × (place ≡ block_place frame class index)

-- words of the arena: the first one, and how many
pub record Span : Type 0 where
  pub first : ℕ
  pub words : ℕ

-- two spans have no word in common
abbrev pub IsApart : Span → Span → Type 0
IsApart a b = (a.first + a.words ≤ b.first) ⊎ (b.first + b.words ≤ a.first)

-- the words of a frame's block
abbrev pub block_span : ℕ → ℕ → ℕ → Span
block_span frame class index = record { first = block_place frame class index; words = block_words_of class }

-- the words of a run of units
abbrev pub run_span : ℕ → ℕ → ℕ → Span
run_span frames unit units = record { first = unit_place frames unit; words = UNIT_WORDS * units }
