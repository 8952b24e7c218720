-- Sums over the words and over the callers of a heap.
use Rattle.std.specs.Prelude.{ℕ, zero, suc, ◌+◌}
use Rattle.heap_geometry.specs.declared.geometry.Geometry.{Geometry}
use Rattle.word_table.specs.declared.name.WordName.{WordName}
use Rattle.word_table.specs.Counts.{word_count}
use Rattle.word_table.specs.Table.{word_name}
use Rattle.errand_steps.specs.Errands.{ErrandFields}

-- f 0 + .. + f (n - 1)
abbrev pub sum_below : ℕ → (ℕ → ℕ) → ℕ
sum_below zero f = 0
sum_below (suc n) f = sum_below n f + f n

-- what the words of the table weigh together, each by its name
unfoldable pub words_sum : Geometry → (WordName → ℕ → ℕ) → (WordName → ℕ) → ℕ
words_sum g weight words = sum_below (word_count g) (λ k. weight (word_name g k) (words (word_name g k)))

-- what the callers' errands weigh together
unfoldable pub callers_sum : Geometry → (ErrandFields → ℕ) → (ℕ → ErrandFields) → ℕ
callers_sum g weight errands = sum_below g.callers (λ caller. weight (errands caller))
