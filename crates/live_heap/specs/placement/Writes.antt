-- The words in memory as a function of their names.
use Rattle.std.specs.Prelude.{ℕ, ◌≡◌, ◌≢◌, List, length, slice_index}
use Rattle.heap_geometry.specs.declared.geometry.Geometry.{Geometry}
use Rattle.word_table.specs.Table.{Exists}
use Rattle.word_table.specs.declared.name.WordName.{WordName}
use Rattle.live_heap.specs.placement.Starts.{place_of}

-- the word at a name's place
abbrev pub word_at : Geometry → List ℕ → WordName → ℕ
word_at g placed name = slice_index placed (place_of g name)

-- the second words are the first with this number written at one name's place
pub record Wrote (g : Geometry) (before : List ℕ) (name : WordName) (new : ℕ) (after : List ℕ) : Type 0 where
  pub whole : length after ≡ length before
  pub here : word_at g after name ≡ new
  pub elsewhere : (other : WordName) → Exists g other → other ≢ name → word_at g after other ≡ word_at g before other
