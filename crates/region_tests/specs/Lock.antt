-- The word 0 is 1 while one seat has the others out, and else 0 or 2: they are at home, never laid, or all of one number.
use Rattle.std.specs.Prelude.{◌≡◌, ◌≢◌, ℕ, ◌⊎◌, Bool, true, false, List, [], ◌∷◌, replicate, Option, Some, None}
use mathlib.Core.Option.{some}
use lib.ListN.{get_elem?}
use Rattle.plain_words.specs.Places.{Place, laid, outs}
use Rattle.atomic_region.specs.Region.{State, Me}

abbrev pub code : Option ℕ → ℕ
code None = 0
code (Some m) = 2

-- n words, never laid or all of one number
abbrev pub evenly : ℕ → Option ℕ → List Place
evenly n c = replicate n (Some c)

module _ (n : ℕ) (s : State Bool) where
  pub record Free : Type 0 where
    pub content : Option ℕ
    pub places : s.places ≡ laid (code content) ∷ evenly n content
    pub nobody : (j : ℕ) → get_elem? s.views j ≡ some true → ⊥

  pub record Taken : Type 0 where
    pub places : s.places ≡ laid 1 ∷ outs n
    pub one : (i j : ℕ) → get_elem? s.views i ≡ some true → get_elem? s.views j ≡ some true → i ≡ j

  abbrev pub Holds : Type 0
  Holds = Free ⊎ Taken

abbrev pub idle : Me Bool
idle = (false, [])

abbrev pub holder : Me Bool
holder = (true, [])

-- what a try that found x tells, where k was to be found
abbrev pub Tried : ℕ → ℕ → Me Bool → ℕ → Me Bool → Type 0
Tried n k me x me' = (x ≡ k → (content : Option ℕ) × (code content ≡ k) × (me' ≡ (true, (1, evenly n content) ∷ []))) × (x ≢ k → me' ≡ me)
