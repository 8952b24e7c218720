-- When two names are the same.
use Rattle.std.proofs.Common.{true, false, ◌≡◌, ◌≢◌, arith, subst, inl, inr, eq-eqb, eqb-true}
use Rattle.std.proofs.lemmas.Bool.{cases_Bool}
use Rattle.word_table.specs.declared.name.WordName.{WordName}
use Rattle.sound_laws.specs.bounds.Wins.{same_name}

-- two names that pass the test of being the same are one
pub same-name-is : (m n : WordName) → same_name m n ≡ true → m ≡ n
same-name-is m n is = grind (arith, is, eqb-true)

-- each name passes the test of being the same as itself
pub same-name-refl : (m : WordName) → same_name m m ≡ true
same-name-refl m = grind (arith, eq-eqb)

-- two names that are one pass the test of being the same, and two that differ don't
pub same-name-one : (m n : WordName) → m ≡ n → same_name m n ≡ true
same-name-one m n is = subst (λ k. same_name m k ≡ true) is (same-name-refl m)

pub same-name-differs : (m n : WordName) → m ≢ n → same_name m n ≡ false
same-name-differs m n differ =
    elim (cases_Bool (same_name m n)) [ inl is ↦ absurd (differ (same-name-is m n is)) | inr is ↦ is ]
