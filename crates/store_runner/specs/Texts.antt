-- The text of a script.
use Rattle.std.specs.Prelude.{ℕ, ◌+◌, ◌*◌, ◌%◌, ◌^◌, List, ◌∷◌, [], ◌++◌, codes, length, sum}
use Rattle.std.specs.Fmt.{decimal}
use Rattle.std.specs.List.{flat_map}
use Rattle.heap_geometry.specs.Need.{need_of, usable_words}
use Rattle.trace_text.specs.Text.{line}
use Rattle.store_runner.specs.Scripts.{list_after, values_of}

-- a pair's line
abbrev pub pair_line : ℕ × ℕ → List ℕ
pair_line pair = line (decimal pair.0 ∷ decimal pair.1 ∷ [])

-- the usable words of the blocks: three for each node, and those of the record's
abbrev pub words_with : ℕ → ℕ
words_with nodes = 3 * nodes + usable_words (need_of (nodes + 1))

-- the lines of a list and a record that were read back
abbrev pub text_of : ℕ → List (ℕ × ℕ) → List ℕ → List ℕ
text_of rounds pairs words =
    line (codes "store" ∷ decimal rounds ∷ [])
    ++ flat_map pair_line pairs
    ++ line (codes "record" ∷ decimal (length words) ∷ codes "sum" ∷ decimal (sum words % 2 ^ 64) ∷ [])
    ++ line (codes "live" ∷ decimal (length pairs + 1) ∷ codes "words" ∷ decimal (words_with (length pairs)) ∷ [])

-- the text of a script of so many rounds
abbrev pub store_text : ℕ → List ℕ
store_text rounds = text_of rounds (list_after rounds) (values_of (list_after rounds))
