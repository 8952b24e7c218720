-- The sums over the passes that were taken in.
use Rattle.std.proofs.Common.{ℕ, zero, suc, ◌≡◌, ◌≢◌, ◌<◌, ◌+◌, List, [], ◌∷◌, refl, sym, ap, ◌∙◌, arith, eq-eqb, ne_eqb}
use Rattle.std.specs.Prelude.{sum_by, ◌==◌, if◌then◌else◌}
use Rattle.std.proofs.lemmas.List.Sums.{sum_by-cons}
use mathlib.Core.Option.{some, some-injective, some-ne-none}
use lib.ListN.{get_elem?}
use Rattle.errand_steps.specs.Errands.{ErrandFields}
use Rattle.sound_state.specs.Sums.{sum_below}
use Rattle.sound_state.proofs.shared.SumLemmas.{sum-one, sum-plus, sum-none, sum-same}
use Rattle.live_heap.specs.declared.view.Standing.{Standing}

-- the caller stands in the list
abbrev pub HasCaller : List Standing → ℕ → Type 0
HasCaller es c = (k : ℕ) × (e : Standing) × (get_elem? es k ≡ some e) × (e.errand.caller ≡ c)

-- what a standing weighs for one caller
abbrev for_caller : (ErrandFields → ℕ) → ℕ → Standing → ℕ
for_caller weight caller x = if x.errand.caller == caller then weight x.errand else 0

-- a sum counted by callers is the one counted by standings
by-callers :
    (weight : ErrandFields → ℕ) (n : ℕ) (xs : List Standing) → ((k : ℕ) (x : Standing) → get_elem? xs k ≡ some x → x.errand.caller < n)
    → sum_below n (λ caller. sum_by (for_caller weight caller) xs) ≡ sum_by (λ (x : Standing). weight x.errand) xs
by-callers weight n [] below = sum-none n (λ caller. 0) (λ j lt. refl)
by-callers weight n (x ∷ xs) below =
    let one = sum-one n (λ caller. for_caller weight caller x) x.errand.caller (below 0 x refl)
    (λ j lt differ. rw (ne_eqb x.errand.caller j (λ same. differ (sym same))) refl) in
    let here : for_caller weight x.errand.caller x ≡ weight x.errand = rw (eq-eqb x.errand.caller x.errand.caller refl) refl in
    let rest = by-callers weight n xs (λ k y at. below (suc k) y at) in
    sum-same n (λ caller. for_caller weight caller x + sum_by (for_caller weight caller) xs) (λ caller. sum_by (for_caller weight caller) (x ∷ xs))
    (λ caller lt. sum_by-cons (for_caller weight caller) x xs)
    ∙ (sum-plus n (λ caller. for_caller weight caller x) (λ caller. sum_by (for_caller weight caller) xs)
    ∙ omega (arith, one, here, rest, sum_by-cons (λ (y : Standing). weight y.errand) x xs))

-- a caller that doesn't stand in the list weighs nothing there
lacking : (weight : ErrandFields → ℕ) (caller : ℕ) (xs : List Standing) → ((k : ℕ) (x : Standing) → get_elem? xs k ≡ some x → x.errand.caller ≢ caller)
    → sum_by (for_caller weight caller) xs ≡ 0
lacking weight caller [] none = refl
lacking weight caller (x ∷ xs) none =
    let gone : for_caller weight caller x ≡ 0 = rw (ne_eqb x.errand.caller caller (none 0 x refl)) refl in
    sum_by-cons (for_caller weight caller) x xs ∙ omega (arith, gone, lacking weight caller xs (λ k y at. none (suc k) y at))

-- a caller that stands in the list once weighs there what its errand does
standing-once :
    (weight : ErrandFields → ℕ) (caller : ℕ) (xs : List Standing) (j : ℕ) (e : Standing) → get_elem? xs j ≡ some e → e.errand.caller ≡ caller
    → ((k : ℕ) (x : Standing) → get_elem? xs k ≡ some x → x.errand.caller ≡ caller → k ≡ j) → sum_by (for_caller weight caller) xs ≡ weight e.errand
standing-once weight caller [] j e at is once = absurd (some-ne-none e (sym at))
standing-once weight caller (x ∷ xs) zero e at is once =
    let same : x ≡ e = some-injective x e at in
    let mine : x.errand.caller ≡ caller = ap (λ (y : Standing). y.errand.caller) same ∙ is in
    let rest = lacking weight caller xs (λ k y there theirs. let z : suc k ≡ 0 = once (suc k) y there theirs in absurd (omega (arith, z))) in
    let here : for_caller weight caller x ≡ weight x.errand = rw (eq-eqb x.errand.caller caller mine) refl in
    let w : weight x.errand ≡ weight e.errand = ap (λ (y : Standing). weight y.errand) same in
    sum_by-cons (for_caller weight caller) x xs ∙ omega (arith, rest, here, w)
standing-once weight caller (x ∷ xs) (suc j) e at is once =
    let apart : x.errand.caller ≢ caller = λ same. let z : 0 ≡ suc j = once 0 x refl same in absurd (omega (arith, z)) in
    let gone : for_caller weight caller x ≡ 0 = rw (ne_eqb x.errand.caller caller apart) refl in
    let rest = standing-once weight caller xs j e at is (λ k y there theirs. let z : suc k ≡ suc j = once (suc k) y there theirs in omega (arith, z)) in
    sum_by-cons (for_caller weight caller) x xs ∙ omega (arith, gone, rest)

-- where all callers stand in the list, each once, the sums are those over the callers
pub all-callers :
    (weight : ErrandFields → ℕ) (errands : ℕ → ErrandFields) (n : ℕ) (xs : List Standing)
    → ((k : ℕ) (x : Standing) → get_elem? xs k ≡ some x → x.errand.caller < n)
    → ((k : ℕ) (x : Standing) → get_elem? xs k ≡ some x → errands x.errand.caller ≡ x.errand)
    → ((j k : ℕ) (d e : Standing) → get_elem? xs j ≡ some d → get_elem? xs k ≡ some e → d.errand.caller ≡ e.errand.caller → j ≡ k)
    → ((caller : ℕ) → caller < n → HasCaller xs caller)
    → sum_below n (λ caller. weight (errands caller)) ≡ sum_by (λ (x : Standing). weight x.errand) xs
all-callers weight errands n xs below so once all =
    sum-same n (λ caller. sum_by (for_caller weight caller) xs) (λ caller. weight (errands caller))
    (λ caller lt.
    let t = all caller lt in
    ap weight (sym (ap errands t.3) ∙ so t.0 t.1 t.2)
    ∙ sym (standing-once weight caller xs t.0 t.1 t.2 t.3 (λ k x at is. once k t.0 x t.1 at t.2 (is ∙ sym t.3))))
    ∙ by-callers weight n xs below
