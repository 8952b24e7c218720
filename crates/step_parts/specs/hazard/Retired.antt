-- The retired descriptors of a caller, and what the hazard words name.
use Rattle.std.specs.Prelude.{ℕ, Bool, Option, List, [], ◌∷◌, ◌+◌, ◌==◌, not, find, if◌then◌else◌}
use Rattle.std.specs.List.{list_any}

-- whether one of these words names the descriptor, by its index plus 1
abbrev pub is_held : List ℕ → ℕ → Bool
is_held held d = list_any (λ word. word == d + 1) held

-- the first descriptor of the list that none of the words names
abbrev pub first_unheld : List ℕ → List ℕ → Option ℕ
first_unheld held ds = find (λ d. not (is_held held d)) ds

-- the list without the first d in it
abbrev pub without : ℕ → List ℕ → List ℕ
without d [] = []
without d (x ∷ xs) = if x == d then xs else x ∷ without d xs
