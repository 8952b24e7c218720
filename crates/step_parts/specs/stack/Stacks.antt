-- A stack as a list.
use Rattle.std.specs.Prelude.{ℕ, ◌≡◌, ◌+◌, List, [], ◌∷◌}
use Rattle.word_table.specs.declared.name.WordName.{WordName}
use Rattle.step_parts.specs.declared.stack.point.Pile.{Pile}
use Rattle.step_parts.specs.stack.Piles.{next_name}

-- the stack with this top and these next words is the list, from the top on: each names the index
-- plus 1, and behind the last stands 0
abbrev pub Stacked : (ℕ → ℕ) → ℕ → List ℕ → Type 0
Stacked next top [] = top ≡ 0
Stacked next top (x ∷ xs) = (top ≡ x + 1) × Stacked next (next x) xs

-- the next word of an index of a stack, in these words
abbrev pub next_in : (WordName → ℕ) → Pile → ℕ → ℕ
next_in words p i = words (next_name p i)
