-- What of an arena is laid at once: a frame, or a unit.
use Rattle.std.specs.Prelude.{ℕ, ◌+◌, ◌-◌, ◌*◌, nat_lt, if◌then◌else◌}
use Rattle.heap_geometry.specs.declared.geometry.Geometry.{Geometry}
use Rattle.heap_geometry.specs.declared.limits.TheConstants.{FRAME_WORDS, UNIT_WORDS}
use Rattle.heap_geometry.specs.Place.{frame_of, unit_of, unit_place}

-- how many pieces a heap has: its frames, and behind them its units
abbrev pub piece_count : Geometry → ℕ
piece_count g = g.frames + g.units

-- the first word of a piece, and how many words it has
abbrev pub piece_start : Geometry → ℕ → ℕ
piece_start g k = if nat_lt k g.frames then FRAME_WORDS * k else unit_place g.frames (k - g.frames)

abbrev pub piece_words : Geometry → ℕ → ℕ
piece_words g k = if nat_lt k g.frames then FRAME_WORDS else UNIT_WORDS

-- the piece in which a word of the arena lies
abbrev pub piece_of : Geometry → ℕ → ℕ
piece_of g word = if nat_lt word (FRAME_WORDS * g.frames) then frame_of word else g.frames + unit_of g.frames word
