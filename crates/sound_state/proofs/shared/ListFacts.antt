-- Short facts of lists of any kind.
use Rattle.std.proofs.Common.{[], ◌∷◌, arith, subst, ℕ, zero, suc, Option, Some, None, ◌≡◌, ◌<◌, List, length, ◌+◌, ◌++◌, ◌≤◌, inl, inr, ◌≢◌, eq-eqb, ne_eqb, Any}
use Rattle.std.proofs.Common.{slice_index_or, ◌==◌, if◌then◌else◌, Contains, All}
use Rattle.std.proofs.lemmas.Bool.{cond-true, cases_eq, cond-false}
use Rattle.std.proofs.lemmas.List.Elements.{All-nil, All-cons, All-head, All-tail}
use Rattle.std.proofs.lemmas.Option.{none-some}
use Rattle.std.specs.List.{AllByRecursion}
use Rattle.sound_state.proofs.Common.{occurs-here, occurs-more}
use Rattle.word_table.specs.Occurs.{occurs}

-- no element of an empty list has a property, and the only one of a list has what some element has
pub any-none : {X : Type 0} (P : X → Type 0) → Any P [] → ⊥
any-none P a = omega (arith, a.2)

pub any-one : {X : Type 0} (P : X → Type 0) (x : X) → Any P (x ∷ []) → P x
any-one P x a =
    subst (λ y. P y → P x) a.3 (All-cons (λ y. P y → P x) x [] (λ p. p) (All-nil (λ y. P y → P x)) a.0 a.1 a.2) a.4

-- an index at which something is written in a list of words is within the list
pub written-within : (xs : List (Option ℕ)) (i v : ℕ) → slice_index_or xs i None ≡ Some v → i < length xs
written-within [] i v of = absurd (none-some v of)
written-within (x ∷ xs) zero v of = omega arith
written-within (x ∷ xs) (suc i) v of = omega (arith, written-within xs i v of)

-- what occurs in a list with one more entry occurs there as before, and once more if it is the entry
pub occurs-push : (k d : ℕ) (xs : List ℕ) → occurs k (xs ++ d ∷ []) ≡ occurs k xs + (if d == k then 1 else 0)
occurs-push k d [] = omega arith
occurs-push k d (x ∷ xs) = omega (arith, occurs-push k d xs)

-- what a list contains occurs in it
pub contains-occurs : (xs : List ℕ) (d : ℕ) → Contains xs d → 1 ≤ occurs d xs
contains-occurs [] d has = omega (arith, has.1)
contains-occurs (x ∷ xs) d (zero, below, is) = omega (arith, cond-true {A = ℕ} (x == d) 1 0 (eq-eqb x d is))
contains-occurs (x ∷ xs) d (suc k, below, is) = omega (arith, contains-occurs xs d (k, omega (arith, below), is))

-- what holds of each number that occurs holds of all
pub all-occurring : (P : ℕ → Type 0) (xs : List ℕ) → ((d : ℕ) → 0 < occurs d xs → P d) → AllByRecursion P xs
all-occurring P [] each = tt
all-occurring P (x ∷ xs) each = (
  each x (omega (arith, occurs-here x xs)),
  all-occurring P xs (λ d on. each d (omega (arith, on, occurs-more d x xs))),
)

-- a number that occurs in a list has the property that all of the list have
pub occurring-all : (P : ℕ → Type 0) (d : ℕ) (xs : List ℕ) → All P xs → 1 ≤ occurs d xs → P d
occurring-all P d [] all some = absurd (omega (arith, some))
occurring-all P d (x ∷ xs) all some =
    elim (cases_eq x d) [
      | inl same ↦ subst P same (All-head P x xs all)
      | inr differ ↦ occurring-all P d xs (All-tail P x xs all) (omega (arith, some, cond-false {A = ℕ} (x == d) 1 0 (ne_eqb x d differ)))
    ]

-- another index in front of a list leaves how often an index occurs there
pub occurs-past : (j i : ℕ) (xs : List ℕ) → i ≢ j → occurs j (i ∷ xs) ≡ occurs j xs
occurs-past j i xs differ = omega (arith, cond-false {A = ℕ} (i == j) 1 0 (ne_eqb i j differ))
