-- Frames that descriptors stand for are no more than what the descriptors weigh together.
use Rattle.std.proofs.Common.{ℕ, zero, suc, ◌≡◌, ◌<◌, ◌≤◌, arith, inl, inr, ◌==◌, if◌then◌else◌, eq-eqb, ne_eqb}
use Rattle.std.proofs.lemmas.Bool.{cases_eq, cond-true, cond-false}
use Rattle.pool_model.specs.Legal.{AtMost}
use Rattle.sound_state.specs.Sums.{sum_below}
use Rattle.sound_state.proofs.counts.AtMostLemmas.{at_most-sum}
use Rattle.sound_state.proofs.shared.SumLemmas.{sum-none, sum-least, sum-swap, term-sum}

-- what a number weighs counts in at most the one frame for which it stands
placed-most : (n x w : ℕ) → sum_below n (λ f. if x == f then w else 0) ≤ w
placed-most zero x w = omega arith
placed-most (suc n) x w =
    elim (cases_eq x n) [
      | inl same ↦
          omega (
            arith,
            cond-true {A = ℕ} (x == n) w 0 (eq-eqb x n same),
            sum-none n (λ f. if x == f then w else 0)
                (λ f lt. cond-false {A = ℕ} (x == f) w 0 (ne_eqb x f (λ e. let bad : ⊥ = omega (arith, e, same, lt) in bad))),
          )
      | inr differ ↦ omega (arith, placed-most n x w, cond-false {A = ℕ} (x == n) w 0 (ne_eqb x n differ))
    ]

-- frames of which each has a descriptor that weighs something and stands for it are no more than the descriptors weigh together
pub frames-most :
    (n m : ℕ) (place weight : ℕ → ℕ) (P : ℕ → Type 0)
    → ((f : ℕ) → f < n → P f → (d : ℕ) × (d < m) × (1 ≤ weight d) × (place d ≡ f)) → AtMost (sum_below m weight) n P
frames-most n m place weight P stands =
    let part = λ (f d : ℕ). if place d == f then weight d else 0 in
    at_most-sum (sum_below m weight) n (λ f. sum_below m (part f)) P
    (λ f lt is.
    let (d, has, weighs, at) = stands f lt is in
    omega (arith, weighs, cond-true {A = ℕ} (place d == f) (weight d) 0 (eq-eqb (place d) f at), term-sum m (part f) d has))
    (omega (
      arith,
      sum-swap n m part,
      sum-least m (λ d. sum_below n (λ f. part f d)) weight (λ d lt. placed-most n (place d) (weight d)),
    ))
