-- What a read of a source tells.
use Rattle.std.specs.Prelude.{ℕ, ◌≡◌, ◌↔◌, List, [], Option, Some, None, ⊤}

-- a read took no bytes exactly where none was left, if the bytes are told
abbrev pub IsZeroAtEnd : Option (List ℕ) → ℕ → Type 0
IsZeroAtEnd None n = ⊤
IsZeroAtEnd (Some xs) n = (n ≡ 0) ↔ (xs ≡ [])
