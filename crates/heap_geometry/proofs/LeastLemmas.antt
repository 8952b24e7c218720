-- The least number that passes a test.
use Rattle.std.proofs.Common.{ℕ, zero, suc, Bool, true, false, ◌≡◌, ◌<◌, nat_le, ap, arith, refl, inl, inr}
use Rattle.std.proofs.lemmas.Bool.{le-leb, lt-leb, cases_lt}
use Rattle.heap_geometry.specs.Need.{IsLeastFor, least}

-- the first number that passes is the least
pub least-is :
    (bound k : ℕ) (test : ℕ → Bool) → k < bound → test k ≡ true → ((j : ℕ) → j < k → test j ≡ false) → least bound test ≡ k
unfolding least
least-is zero k test below passes fails = absurd (omega arith)
least-is (suc bound) zero test below passes fails = rw passes refl
least-is (suc bound) (suc k) test below passes fails =
    rw (fails 0 (omega arith))
    (ap suc (least-is bound k (λ j. test (suc j)) (omega arith) passes (λ j h. fails (suc j) (omega arith))))

-- the least number with enough words is the first one that a test of them passes
pub least-enough :
    (bound need k : ℕ) (words : ℕ → ℕ) → k < bound → IsLeastFor words need k → least bound (λ j. nat_le need (words j)) ≡ k
least-enough bound need k words below h =
    least-is bound k (λ j. nat_le need (words j)) below (le-leb need (words k) h.enough)
    (λ j l. elim (cases_lt (words j) need) [
      | inl short ↦ lt-leb need (words j) short
      | inr enough ↦ absurd (omega (arith, h.least j enough))
    ])
