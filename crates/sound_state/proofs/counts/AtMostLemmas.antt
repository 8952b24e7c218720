-- Numbers that rise are no more than the sum of what each of them weighs.
use Rattle.std.proofs.Common.{ℕ, suc, ◌≡◌, ◌≢◌, ◌<◌, ◌≤◌, ◌+◌, List, [], ◌∷◌, length, get_or, refl, arith, ◌==◌, if◌then◌else◌, All, AllPairs, eq-eqb, ne_eqb}
use Rattle.std.proofs.lemmas.Bool.{cond-true, cond-false}
use Rattle.std.proofs.lemmas.List.Kept.{AllPairs-from_increasing}
use Rattle.pool_model.specs.Legal.{AtMost}
use Rattle.sound_state.specs.Sums.{sum_below}
use Rattle.sound_state.proofs.shared.SumLemmas.{sum-change}

-- a list of rising numbers that each weigh something is no longer than the sum of the weights
rising-most :
    (n : ℕ) (h : ℕ → ℕ) (ks : List ℕ) → AllPairs (λ a b. a < b) ks → All (λ k. (k < n) × (1 ≤ h k)) ks → length ks ≤ sum_below n h
rising-most n h [] up all = omega arith
rising-most n h (k ∷ ks) up all =
    let first : (k < n) × (1 ≤ h k) = all 0 0 (omega arith) in
    let rest : ℕ → ℕ = λ j. if j == k then 0 else h j in
    let changed : sum_below n rest + h k ≡ sum_below n h + rest k =
    sum-change n h rest k first.0 (λ j lt other. cond-false {A = ℕ} (j == k) 0 (h j) (ne_eqb j k other)) in
    let here : rest k ≡ 0 = cond-true {A = ℕ} (k == k) 0 (h k) (eq-eqb k k refl) in
    let fewer : length ks ≤ sum_below n rest =
    rising-most n rest ks (λ i j d before within. up (suc i) (suc j) d (omega arith) (omega arith))
    (λ i d within.
    let there : (get_or ks i d < n) × (1 ≤ h (get_or ks i d)) = all (suc i) d (omega arith) in
    let above : k < get_or ks i d = up 0 (suc i) d (omega arith) (omega arith) in
    let other : get_or ks i d ≢ k = λ same. omega (arith, same, above) in
    let still : rest (get_or ks i d) ≡ h (get_or ks i d) =
    cond-false {A = ℕ} (get_or ks i d == k) 0 (h (get_or ks i d)) (ne_eqb (get_or ks i d) k other) in
    (there.0, omega (arith, still, there.1))) in
    omega (arith, changed, here, fewer, first.1)

-- at most so many numbers have a property as those that have it weigh together
pub at_most-sum :
    (most bound : ℕ) (h : ℕ → ℕ) (P : ℕ → Type 0) → ((k : ℕ) → k < bound → P k → 1 ≤ h k) → sum_below bound h ≤ most
    → AtMost most bound P
at_most-sum most bound h P weighs below ks increasing all =
    omega (
      arith,
      below,
      rising-most bound h ks (AllPairs-from_increasing ks increasing)
          (λ i d within. let one = all i d within in (one.0, weighs (get_or ks i d) one.0 one.1)),
    )
