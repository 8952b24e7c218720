-- The words as a function of their names.
use Rattle.std.specs.Prelude.{ℕ, ◌≡◌, ◌≢◌, List, slice_index, if◌then◌else◌}
use Rattle.heap_geometry.specs.declared.geometry.Geometry.{Geometry}
use Rattle.word_table.specs.declared.name.WordName.{WordName}
use Rattle.word_table.specs.Table.{exists, word_index}

-- the word of a name in a table; 0 for a name that the heap hasn't
unfoldable pub word_in : Geometry → List ℕ → WordName → ℕ
word_in g words name = if exists g name then slice_index words (word_index g name) else 0

-- the second words are the first with this number written at one name
pub record Writes (before : WordName → ℕ) (name : WordName) (new : ℕ) (after : WordName → ℕ) : Type 0 where
  pub here : after name ≡ new
  pub elsewhere : (other : WordName) → other ≢ name → after other ≡ before other
