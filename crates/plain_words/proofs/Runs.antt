-- A run of one word.
use Rattle.std.proofs.Common.{◌≡◌, ℕ, zero, suc, ◌+◌, ◌<◌, ◌≤◌, List, [], ◌∷◌, length, get_or, ap, arith}
use Rattle.std.specs.Prelude.{Some, None}
use Rattle.plain_words.specs.Places.{Place, laids, number_at, run, IsLaid}

pub one_run : (ps : List Place) (i : ℕ) → IsLaid ps i → (i + 1 ≤ length ps) × (run ps i 1 ≡ laids (number_at ps i ∷ []))
one_run [] i e = absurd (let no : ⊥ = cc in no)
one_run (p ∷ ps) zero e = (omega arith, ap (λ (q : Place). q ∷ []) e)
one_run (p ∷ ps) (suc i) e = let r = one_run ps i e in (omega (arith, r.0), r.1)

-- its word is the first of the slice
pub first_of : (n : ℕ) (ns : List ℕ) → laids (n ∷ []) ≡ laids ns → (0 < length ns) × (n ≡ get_or ns 0 0)
first_of n [] e = absurd (let no : ⊥ = cc in no)
first_of n (m ∷ ms) e = (omega arith, let it : Some (Some n) ≡ Some (Some m) = ap (λ (l : List Place). get_or l 0 None) e in cc)
