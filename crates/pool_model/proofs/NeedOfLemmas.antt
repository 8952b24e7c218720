-- Which blocks serve a need: they are blocks of the heap.
use Rattle.std.proofs.Common.{ℕ, zero, suc, Bool, true, false, ◌≡◌, ◌-◌, ◌<◌, ◌≤◌, nat_le, inl, inr, arith}
use Rattle.std.proofs.lemmas.Bool.{cases_Bool, cases_lt, le-leb, lt-leb}
use Rattle.heap_geometry.specs.declared.limits.TheConstants.{CLASSES, SMALL_MOST, LARGE_MOST, LEAST_UNITS, MAX_UNITS}
use Rattle.heap_geometry.specs.Need.{IsNeed, need_of, least, class_words, run_words}

-- the least number that passes is at most one that passes
pub least-at_most : (bound k : ℕ) (test : ℕ → Bool) → k < bound → test k ≡ true → least bound test ≤ k
unfolding least
least-at_most zero k test below passes = absurd (omega arith)
least-at_most (suc bound) zero test below passes = rw passes (omega arith)
least-at_most (suc bound) (suc k) test below passes =
    elim (cases_Bool (test 0)) [
      | inl first ↦ rw first (omega arith)
      | inr later ↦
          let h : least bound (λ j. test (suc j)) ≤ k = least-at_most bound k (λ j. test (suc j)) (omega arith) passes in
          rw later (omega arith)
    ]

-- the least number that passes is none of the first numbers, if those fail
pub least-above : (bound low : ℕ) (test : ℕ → Bool) → low ≤ bound → ((j : ℕ) → j < low → test j ≡ false) → low ≤ least bound test
unfolding least
least-above bound zero test room fails = omega arith
least-above zero (suc low) test room fails = absurd (omega (arith, room))
least-above (suc bound) (suc low) test room fails =
    let h : low ≤ least bound (λ j. test (suc j)) =
    least-above bound low (λ j. test (suc j)) (omega (arith, room)) (λ j below. fails (suc j) (omega (arith, below))) in
    rw (fails 0 (omega arith)) (omega (arith, h))

pub need_of-within : (need : ℕ) → IsNeed (need_of need)
unfolding need_of
need_of-within need =
    elim (cases_lt SMALL_MOST need) [
      | inr small ↦
          let h : least CLASSES (λ class. nat_le need (class_words class)) ≤ CLASSES - 1 =
          least-at_most CLASSES (CLASSES - 1) (λ class. nat_le need (class_words class)) (omega arith)
          (le-leb need (class_words (CLASSES - 1)) small) in
          rw (le-leb need SMALL_MOST small) (omega arith)
      | inl above ↦
          rw (lt-leb need SMALL_MOST above)
          (elim (cases_lt LARGE_MOST need) [
            | inr large ↦
                rw (le-leb need LARGE_MOST large) (
                  least-above (suc MAX_UNITS) LEAST_UNITS (λ units. nat_le need (run_words units)) (omega arith)
                      (λ units few. lt-leb need (run_words units) (omega (arith, above, few))),
                  least-at_most (suc MAX_UNITS) MAX_UNITS (λ units. nat_le need (run_words units)) (omega arith)
                      (le-leb need (run_words MAX_UNITS) large),
                )
            | inl more ↦ rw (lt-leb need LARGE_MOST more) tt
          ])
    ]
