-- How many bytes memory has.
use Rattle.std.specs.Prelude.{ℕ, ◌+◌, ◌*◌, ◌/◌}

-- how many words so many bytes lie in
abbrev pub words_for : ℕ → ℕ
words_for bytes = (bytes + 7) / 8

-- how many bytes so many words have, all of which are C's
abbrev pub bytes_of : ℕ → ℕ
bytes_of words = 8 * words
