-- Words that are laid one after the other.
use Rattle.std.proofs.Common.{◌≡◌, ◌≢◌, ℕ, ◌+◌, ◌<◌, List, None, length, sym, ap, ◌∙◌, subst, arith, inl, inr, length-set, get_or-set_same, get_or-set_other}
use Rattle.std.specs.Prelude.{slice_set}
use Rattle.std.proofs.lemmas.Bool.{cases_eq}
use Rattle.plain_words.specs.Places.{AllHere, IsHere, IsLaid, Place, laid, number, place_at}

laid-here : (n : ℕ) → IsHere (laid n)
laid-here n is = cc

module _ (ps : List Place) (i n : ℕ) (within : i < length ps) where
  same : place_at (slice_set ps i (laid n)) i ≡ laid n
  same = get_or-set_same ps i (laid n) None within

  other : (k : ℕ) → k ≢ i → place_at (slice_set ps i (laid n)) k ≡ place_at ps k
  other k ne = get_or-set_other ps i k (laid n) None ne

  -- all are here still
  pub all-here : AllHere ps → AllHere (slice_set ps i (laid n))
  all-here here k lo =
      elim (cases_eq k i) [
        | inl one ↦ subst (λ j. IsHere (place_at (slice_set ps i (laid n)) j)) (sym one) (subst IsHere (sym same) (laid-here n))
        | inr ne ↦ subst IsHere (sym (other k ne)) (here k (omega (arith, lo, length-set ps i (laid n))))
      ]

  -- one more is laid
  pub one-more-laid : ((k : ℕ) → k < i → IsLaid ps k) → (k : ℕ) → k < i + 1 → IsLaid (slice_set ps i (laid n)) k
  one-more-laid done k lo =
      elim (cases_eq k i) [
        | inl one ↦ subst (λ j. IsLaid (slice_set ps i (laid n)) j) (sym one) (same ∙ ap (λ (p : Place). laid (number p)) (sym same))
        | inr ne ↦ other k ne ∙ done k (omega (arith, lo, ne)) ∙ ap (λ (p : Place). laid (number p)) (sym (other k ne))
      ]
