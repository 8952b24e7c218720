-- The memory of a heap before its first step.
use Rattle.std.specs.Prelude.{ℕ, ◌≡◌, ◌<◌, ◌≤◌, ◌+◌, Some, None, List, length}
use Rattle.heap_geometry.specs.declared.geometry.Geometry.{Geometry}
use Rattle.word_table.specs.Counts.{arena_words, word_count}
use Rattle.word_table.specs.Table.{Exists, word_index}
use Rattle.word_table.specs.declared.name.WordName.{WordName}
use Rattle.errand_steps.specs.Openings.{opening}
use Rattle.step_machine.specs.Firsts.{IsTable}
use Rattle.plain_words.specs.Places.{Place, laid, number_at, numbers, place_at}
use Rattle.live_heap.specs.placement.Places.{placed_count, words_at}
use Rattle.live_heap.specs.placement.Writes.{Wrote}
use Rattle.live_heap.specs.Pieces.{mark_count, mark_place}

-- the arena is blank, every place behind it is laid, and each mark is 0
pub record IsLaidBehind (g : Geometry) (places : List Place) : Type 0 where
  pub long : length places ≡ placed_count g + mark_count g
  pub arena : (i : ℕ) → i < arena_words g → place_at places i ≡ Some None
  pub behind : (i : ℕ) → arena_words g ≤ i → i < length places → place_at places i ≡ laid (number_at places i)
  pub marks : (k : ℕ) → k < mark_count g → number_at places (mark_place g k) ≡ 0

-- and every word is 0
pub record IsBlankRoom (g : Geometry) (places : List Place) : Type 0 where
  pub behind : IsLaidBehind g places
  pub zeros : (i : ℕ) → number_at places i ≡ 0

-- and the heap's own words are those of opening
pub record IsFirstRoom (g : Geometry) (places : List Place) : Type 0 where
  pub behind : IsLaidBehind g places
  pub words : IsTable g (opening g) (word_count g) (words_at g (numbers places))

-- one of the heap's own words, which lie behind the arena
abbrev pub IsOwn : Geometry → WordName → Type 0
IsOwn g name = Exists g name × (arena_words g ≤ word_index g name)

-- the number is written at the name's place, and nowhere else
abbrev pub HasWritten : Geometry → List Place → WordName → ℕ → List Place → Type 0
HasWritten g before name new after = IsLaidBehind g after × Wrote g (numbers before) name new (numbers after)
