-- The lowest free run.
use Rattle.std.proofs.Common.{ℕ, zero, suc, Bool, true, false, ◌≡◌, ◌+◌, ◌-◌, ◌<◌, ◌≤◌, Option, Some, None, arith, ap, refl, inl, inr}
use Rattle.std.specs.Prelude.{nat_le}
use Rattle.std.proofs.lemmas.Bool.{both_ways, cases_order, cond_both, leb-true, leb-false}
use Rattle.heap_geometry.specs.Need.{least}
use Rattle.step_parts.specs.large.Units.{IsFreeRun, IsFirstRun, is_free, lowest_free, first_run_of}
use Rattle.step_parts.proofs.large_lemmas.UnitLemmas.{is_free-run, run-is_free}

-- the least number below the bound passes the test
least-passes : (bound : ℕ) (test : ℕ → Bool) → least bound test < bound → test (least bound test) ≡ true
unfolding least
least-passes zero test below = absurd (omega arith)
least-passes (suc bound) test below =
    cond_both (test 0) 0 (suc (least bound (λ k. test (suc k)))) (λ n. n < suc bound → test n ≡ true)
    (λ e within. e) (λ e within. least-passes bound (λ k. test (suc k)) (omega arith)) below

-- a number smaller than the least one fails the test
least-fails : (bound : ℕ) (test : ℕ → Bool) (j : ℕ) → j < least bound test → test j ≡ false
unfolding least
least-fails zero test j below = absurd (omega arith)
least-fails (suc bound) test zero below =
    cond_both (test 0) 0 (suc (least bound (λ k. test (suc k)))) (λ n. 0 < n → test 0 ≡ false)
    (λ e within. absurd (omega arith)) (λ e within. e) below
least-fails (suc bound) test (suc j) below =
    cond_both (test 0) 0 (suc (least bound (λ k. test (suc k)))) (λ n. suc j < n → test (suc j) ≡ false)
    (λ e within. absurd (omega arith)) (λ e within. least-fails bound (λ k. test (suc k)) j (omega arith)) below

-- a run that the test refuses is not free
pub refused-run : (bits u n : ℕ) → is_free bits u n ≡ false → ¬ IsFreeRun bits u n
refused-run bits u n e free = both_ways (is_free bits u n) e (run-is_free bits u n free)

-- the first run is the lowest free one, or there is none
pub first_run-exact : (bits units n : ℕ) → IsFirstRun bits units n (first_run_of bits units n)
unfolding first_run_of
first_run-exact bits units n =
    let test : ℕ → Bool = λ first. is_free bits first n in
    let bound : ℕ = units + 1 - n in
    cond_both (nat_le (lowest_free bits units n + n) units) (Some (lowest_free bits units n)) None (IsFirstRun bits units n)
    (λ e. let within : lowest_free bits units n + n ≤ units = leb-true (lowest_free bits units n + n) units e in
    record {
      within = within;
      free = is_free-run bits (lowest_free bits units n) n (least-passes bound test (omega (arith, within)));
      lowest = λ u below. refused-run bits u n (least-fails bound test u below);
    })
    (λ e u within. refused-run bits u n (least-fails bound test u (omega (arith, leb-false (lowest_free bits units n + n) units e))))

-- two first runs are the same one
first_run-one : (bits units n : ℕ) (a b : Option ℕ) → IsFirstRun bits units n a → IsFirstRun bits units n b → a ≡ b
first_run-one bits units n None None first second = refl
first_run-one bits units n None (Some b) first second = absurd (first b second.within second.free)
first_run-one bits units n (Some a) None first second = absurd (second a first.within first.free)
first_run-one bits units n (Some a) (Some b) first second =
    elim (cases_order a b) [
      | inl e ↦ ap Some e
      | inr (inl before) ↦ absurd (second.lowest a before first.free)
      | inr (inr after) ↦ absurd (first.lowest b after second.free)
    ]

pub first_run-alone :
    (bits units n : ℕ) (found : Option ℕ) → IsFirstRun bits units n found → found ≡ first_run_of bits units n
first_run-alone bits units n found h =
    first_run-one bits units n found (first_run_of bits units n) h (first_run-exact bits units n)

-- a run that passes the test, where no lower one does, is the first
pub first_run-found :
    (bits units n first : ℕ) → first + n ≤ units → is_free bits first n ≡ true
    → ((u : ℕ) → u < first → is_free bits u n ≡ false) → IsFirstRun bits units n (Some first)
first_run-found bits units n first within free lower = record {
  within = within;
  free = is_free-run bits first n free;
  lowest = λ u below. refused-run bits u n (lower u below);
}
