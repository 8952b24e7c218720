-- The number of a place that is laid.
use Rattle.std.proofs.Common.{◌≡◌, ℕ, zero, suc, List, [], ◌∷◌, sym, ap}
use Rattle.std.specs.Prelude.{slice_index}
use Rattle.plain_words.specs.Places.{Place, laid, number, numbers, place_at}

pub read-number : (ps : List Place) (i n : ℕ) → place_at ps i ≡ laid n → n ≡ slice_index (numbers ps) i
read-number [] i n e = absurd (let no : ⊥ = cc in no)
read-number (p ∷ ps) zero n e = sym (ap number e)
read-number (p ∷ ps) (suc i) n e = read-number ps i n e
