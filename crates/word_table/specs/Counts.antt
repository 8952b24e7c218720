-- How many descriptors and words a heap has.
use Rattle.std.specs.Prelude.{ℕ, ◌+◌, ◌*◌}
use Rattle.heap_geometry.specs.declared.geometry.Geometry.{Geometry}
use Rattle.heap_geometry.specs.declared.limits.TheConstants.{FRAME_WORDS, UNIT_WORDS, CLASSES, SHELVES}

-- the words of the arena: its frames, and behind them its units
abbrev pub arena_words : Geometry → ℕ
arena_words g = FRAME_WORDS * g.frames + UNIT_WORDS * g.units

-- the descriptors: for each class one for each frame, for each of its processor heaps, and two for
-- each caller; and for each caller as many as it keeps retired at most
unfoldable pub descriptor_count : Geometry → ℕ
descriptor_count g = CLASSES * (g.frames + g.heaps + 2 * g.callers) + g.callers * (g.callers + 1)

-- the words of the table
unfoldable pub word_count : Geometry → ℕ
word_count g =
    arena_words g + 3 * descriptor_count g + 2 * (g.heaps * CLASSES) + CLASSES + g.frames + g.callers + SHELVES + 3
