-- Words of memory as plain data: each is out, or here and never laid, or here and laid with a number.
use Rattle.std.specs.Prelude.{◌≡◌, ◌≢◌, ℕ, ◌+◌, ◌<◌, ◌≤◌, List, ◌++◌, map, length, take, drop, replicate, Option, Some, None, slice_index_or}

-- `None` where the word is out, `Some None` where it was never laid
abbrev pub Place : Type 0
Place = Option (Option ℕ)

abbrev pub laid : ℕ → Place
laid n = Some (Some n)

abbrev pub laids : List ℕ → List Place
laids ns = map laid ns

-- n words that were never laid
abbrev pub blanks : ℕ → List Place
blanks n = replicate n (Some None)

-- n words that are out
abbrev pub outs : ℕ → List Place
outs n = replicate n None

-- a word's number, where one that is out or was never laid counts as 0
abbrev pub number : Place → ℕ
number None = 0
number (Some None) = 0
number (Some (Some n)) = n

abbrev pub numbers : List Place → List ℕ
numbers ps = map number ps

-- the word i, which past the last is out
abbrev pub place_at : List Place → ℕ → Place
place_at ps i = slice_index_or ps i None

abbrev pub number_at : List Place → ℕ → ℕ
number_at ps i = number (place_at ps i)

abbrev pub IsLaid : List Place → ℕ → Type 0
IsLaid ps i = place_at ps i ≡ laid (number_at ps i)

abbrev pub IsHere : Place → Type 0
IsHere p = p ≢ None

-- no word is out
abbrev pub AllHere : List Place → Type 0
AllHere ps = (i : ℕ) → i < length ps → IsHere (place_at ps i)

-- the n words from k on
abbrev pub run : List Place → ℕ → ℕ → List Place
run ps k n = take n (drop k ps)

-- they are there, and each is laid
abbrev pub IsLaidRun : List Place → ℕ → ℕ → Type 0
IsLaidRun ps k n = (k + n ≤ length ps) × ((ns : List ℕ) × (run ps k n ≡ laids ns))

-- qs in the place of as many from k on
abbrev pub put : List Place → ℕ → List Place → List Place
put ps k qs = take k ps ++ (qs ++ drop (k + length qs) ps)
