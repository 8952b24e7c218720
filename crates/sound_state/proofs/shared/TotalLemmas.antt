-- Sums over the callers as sums over a list of their errands.
use Rattle.std.proofs.Common.{ℕ, ◌≡◌, ◌<◌, ◌+◌, inl, inr, List, [], ◌∷◌, refl, sym, ap, ◌∙◌, arith, eq-eqb, ne_eqb, ◌==◌, All, sum_by, if◌then◌else◌}
use Rattle.std.proofs.lemmas.Bool.{cases_eq}
use Rattle.std.proofs.lemmas.List.Elements.{All-head, All-tail}
use Rattle.std.proofs.lemmas.List.Sums.{sum_by-cons}
use Rattle.sound_state.proofs.Common.{Geometry, ErrandFields, sum_below, callers_sum}
use Rattle.sound_state.specs.Totals.{AreAllErrands}
use Rattle.sound_state.proofs.shared.SumLemmas.{sum-one, sum-plus, sum-none, sum-same}

-- an entry of a list of errands, for the callers below a number
abbrev IsEntry : ℕ → (ℕ → ErrandFields) → ErrandFields → Type 0
IsEntry n errands e = (e.caller < n) × (e ≡ errands e.caller)

-- what an entry weighs for one caller, and whether it is one of that caller
abbrev for_caller : (ErrandFields → ℕ) → ℕ → ErrandFields → ℕ
for_caller weight caller e = if e.caller == caller then weight e else 0

abbrev one_for : ℕ → ErrandFields → ℕ
one_for caller e = if e.caller == caller then 1 else 0

-- a list of entries weighs the same counted by callers and by entries
by-callers :
    (weight : ErrandFields → ℕ) (errands : ℕ → ErrandFields) (n : ℕ) (list : List ErrandFields) → All (IsEntry n errands) list
    → sum_below n (λ caller. sum_by (for_caller weight caller) list) ≡ sum_by weight list
by-callers weight errands n [] each = sum-none n (λ caller. 0) (λ j lt. refl)
by-callers weight errands n (e ∷ list) each =
    let first = All-head (IsEntry n errands) e list each in
    let one = sum-one n (λ caller. for_caller weight caller e) e.caller first.0
    (λ j lt differ. rw (ne_eqb e.caller j (λ same. differ (sym same))) refl) in
    let here : for_caller weight e.caller e ≡ weight e = rw (eq-eqb e.caller e.caller refl) refl in
    let rest = by-callers weight errands n list (All-tail (IsEntry n errands) e list each) in
    sum-same n (λ caller. for_caller weight caller e + sum_by (for_caller weight caller) list) (λ caller. sum_by (for_caller weight caller) (e ∷ list))
    (λ caller lt. sum_by-cons (for_caller weight caller) e list)
    ∙ (sum-plus n (λ caller. for_caller weight caller e) (λ caller. sum_by (for_caller weight caller) list)
    ∙ omega (arith, one, here, rest, sum_by-cons weight e list))

-- a caller that has no entry weighs nothing
weighs-none :
    (weight : ErrandFields → ℕ) (caller : ℕ) (list : List ErrandFields) → sum_by (one_for caller) list ≡ 0 → sum_by (for_caller weight caller) list ≡ 0
weighs-none weight caller [] none = refl
weighs-none weight caller (e ∷ list) none =
    let count = sum_by-cons (one_for caller) e list in
    let all = sum_by-cons (for_caller weight caller) e list in
    elim (cases_eq e.caller caller) [
      | inl same ↦
          let one : one_for caller e ≡ 1 = rw (eq-eqb e.caller caller same) refl in absurd (omega (arith, count, one, none))
      | inr apart ↦
          let gone : for_caller weight caller e ≡ 0 = rw (ne_eqb e.caller caller apart) refl in
          let less : one_for caller e ≡ 0 = rw (ne_eqb e.caller caller apart) refl in
          let rest = weighs-none weight caller list (omega (arith, count, less, none)) in
          omega (arith, all, gone, rest)
    ]

-- a caller that has one entry weighs what its errand does
weighs-once :
    (weight : ErrandFields → ℕ) (errands : ℕ → ErrandFields) (n caller : ℕ) (list : List ErrandFields) → All (IsEntry n errands) list
    → sum_by (one_for caller) list ≡ 1 → sum_by (for_caller weight caller) list ≡ weight (errands caller)
weighs-once weight errands n caller [] each once = absurd (omega (arith, once))
weighs-once weight errands n caller (e ∷ list) each once =
    let count = sum_by-cons (one_for caller) e list in
    let all = sum_by-cons (for_caller weight caller) e list in
    elim (cases_eq e.caller caller) [
      | inl same ↦
          let one : one_for caller e ≡ 1 = rw (eq-eqb e.caller caller same) refl in
          let here : for_caller weight caller e ≡ weight e = rw (eq-eqb e.caller caller same) refl in
          let is : weight e ≡ weight (errands caller) = ap weight ((All-head (IsEntry n errands) e list each).1 ∙ ap errands same) in
          let rest = weighs-none weight caller list (omega (arith, count, one, once)) in
          omega (arith, all, here, is, rest)
      | inr apart ↦
          let gone : for_caller weight caller e ≡ 0 = rw (ne_eqb e.caller caller apart) refl in
          let less : one_for caller e ≡ 0 = rw (ne_eqb e.caller caller apart) refl in
          let rest = weighs-once weight errands n caller list (All-tail (IsEntry n errands) e list each) (omega (arith, count, less, once)) in
          omega (arith, all, gone, rest)
    ]

pub all-callers :
    (g : Geometry) (errands : ℕ → ErrandFields) (list : List ErrandFields) (weight : ErrandFields → ℕ) → AreAllErrands g errands list
    → callers_sum g weight errands ≡ sum_by weight list
unfolding callers_sum
all-callers g errands list weight all =
    sym
    (sum-same g.callers (λ caller. weight (errands caller)) (λ caller. sum_by (for_caller weight caller) list)
    (λ caller lt. weighs-once weight errands g.callers caller list all.each (all.once caller lt)))
    ∙ by-callers weight errands g.callers list all.each
