-- How many words a piece of a page has.
use Rattle.std.specs.Prelude.{ℕ, ◌+◌, ◌-◌, ◌*◌, ◌/◌, max, nat_le, if◌then◌else◌}
use Rattle.heap_geometry.specs.Need.{need_of, usable_words}
use Rattle.heap_geometry.specs.declared.limits.TheConstants.{SMALL_MOST}

-- the words that are asked for, for a page whose pieces serve n words: its block is one of the largest class, or a run of units
abbrev pub page_words : ℕ → ℕ
page_words n = max n SMALL_MOST

-- how many steps of so many words n words take
abbrev pub steps_of : ℕ → ℕ → ℕ
steps_of step n = (n + (step - 1)) / step

-- the words of a piece that serves n words: up to 16 of them the next multiple of 2, up to 32 of 4, up to 64 of 8, up to 256 of 16; up to 1022 the most, of an even number, of which a page has as many pieces; else the piece is alone in its page
unfoldable pub piece_words : ℕ → ℕ
piece_words n =
    if nat_le n 16
    then steps_of 2 (max n 1) * 2
    else
    (if nat_le n 32
    then steps_of 4 n * 4
    else
    (if nat_le n 64
    then steps_of 8 n * 8
    else
    (if nat_le n 256
    then steps_of 16 n * 16
    else
    (if nat_le n 1022
    then 1023 / (1023 / steps_of 2 n) * 2
    else usable_words (need_of (page_words n))))))

-- the number of the size of a piece
unfoldable pub size_number : ℕ → ℕ
size_number size =
    if nat_le size 16
    then size / 2 - 1
    else
    (if nat_le size 32
    then 3 + size / 4
    else
    (if nat_le size 64
    then 7 + size / 8
    else
    (if nat_le size 256
    then 11 + size / 16
    else
    (if nat_le size 1022
    then 35 - 2047 / size
    else 34))))
