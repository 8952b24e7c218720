-- Words that are laid one after another.
use Rattle.std.proofs.Common.{◌≡◌, ℕ, zero, suc, ◌<◌, List, [], ◌∷◌, length, get_or, set, refl, ap, arith}
use lib.ListN.{replicate}
use Rattle.std.specs.Prelude.{None}
use Rattle.plain_words.specs.Places.{Place, laid, laids}

module _ (n : ℕ) where
  -- the first i are laid, and the others as they were
  abbrev pub so_far : List Place → ℕ → List Place
  so_far ps zero = ps
  so_far [] (suc i) = []
  so_far (p ∷ ps) (suc i) = laid n ∷ so_far ps i

  pub as_many : (ps : List Place) (i : ℕ) → length (so_far ps i) ≡ length ps
  as_many ps zero = refl
  as_many [] (suc i) = refl
  as_many (p ∷ ps) (suc i) = ap suc (as_many ps i)

  pub next_is : (ps : List Place) (i : ℕ) → get_or (so_far ps i) i None ≡ get_or ps i None
  next_is ps zero = refl
  next_is [] (suc i) = refl
  next_is (p ∷ ps) (suc i) = next_is ps i

  pub one_more : (ps : List Place) (i : ℕ) → i < length ps → set (so_far ps i) i (laid n) ≡ so_far ps (suc i)
  one_more [] i lt = absurd (omega arith)
  one_more (p ∷ ps) zero lt = refl
  one_more (p ∷ ps) (suc i) lt = ap (λ (l : List Place). laid n ∷ l) (one_more ps i (omega (arith, lt)))

  pub all_of_them : (ps : List Place) → so_far ps (length ps) ≡ laids (replicate (length ps) n)
  all_of_them [] = refl
  all_of_them (p ∷ ps) = ap (λ (l : List Place). laid n ∷ l) (all_of_them ps)

-- the first i numbers are laid, and the other words as they were
abbrev pub begun : List ℕ → List Place → ℕ → List Place
begun ns ps zero = ps
begun [] ps (suc i) = ps
begun (n ∷ ns) [] (suc i) = []
begun (n ∷ ns) (p ∷ ps) (suc i) = laid n ∷ begun ns ps i

pub begun-long : (ns : List ℕ) (ps : List Place) (i : ℕ) → length (begun ns ps i) ≡ length ps
begun-long ns ps zero = refl
begun-long [] ps (suc i) = refl
begun-long (n ∷ ns) [] (suc i) = refl
begun-long (n ∷ ns) (p ∷ ps) (suc i) = ap suc (begun-long ns ps i)

pub begun-more : (ns : List ℕ) (ps : List Place) (i : ℕ) → i < length ns → length ps ≡ length ns → set (begun ns ps i) i (laid (get_or ns i 0)) ≡ begun ns ps (suc i)
begun-more [] ps i lt same = absurd (omega arith)
begun-more (n ∷ ns) [] i lt same = absurd (omega (arith, same))
begun-more (n ∷ ns) (p ∷ ps) zero lt same = refl
begun-more (n ∷ ns) (p ∷ ps) (suc i) lt same = ap (λ (l : List Place). laid n ∷ l) (begun-more ns ps i (omega (arith, lt)) (omega (arith, same)))

pub begun-all : (ns : List ℕ) (ps : List Place) → length ps ≡ length ns → begun ns ps (length ns) ≡ laids ns
begun-all [] [] same = refl
begun-all [] (p ∷ ps) same = absurd (omega (arith, same))
begun-all (n ∷ ns) [] same = absurd (omega (arith, same))
begun-all (n ∷ ns) (p ∷ ps) same = ap (λ (l : List Place). laid n ∷ l) (begun-all ns ps (omega (arith, same)))
