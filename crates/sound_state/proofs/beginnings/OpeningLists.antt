-- The indexes from one on, as a list, as a stack and as a chain.
use Rattle.std.proofs.Common.{ℕ, zero, suc, ◌≡◌, ◌<◌, ◌≤◌, ◌+◌, List, [], ◌∷◌, refl, arith, ap, sym, subst, inl, inr, ◌==◌, if◌then◌else◌, All, eq-eqb, ne_eqb}
use Rattle.std.proofs.lemmas.Bool.{cond-true, cond-false, cases_eq}
use Rattle.std.proofs.lemmas.List.Elements.{All-cons, All-nil}
use Rattle.sound_state.proofs.Common.{occurs, Stacked, chain_of}
use Rattle.errand_steps.specs.Openings.{next_index}

-- the indexes from the first one on, as many as this
abbrev pub indexes : ℕ → ℕ → List ℕ
indexes first zero = []
indexes first (suc n) = first ∷ indexes (suc first) n

-- each index of those from the first one on is below their end
pub indexes-below : (first n end : ℕ) → first + n ≤ end → All (λ i. i < end) (indexes first n)
indexes-below first zero end h = All-nil (λ i. i < end)
indexes-below first (suc n) end h =
    All-cons (λ i. i < end) first (indexes (suc first) n) (omega arith) (indexes-below (suc first) n end (omega arith))

-- an index before the first one isn't among those from it on
pub indexes-before : (first n i : ℕ) → i < first → occurs i (indexes first n) ≡ 0
indexes-before first zero i h = refl
indexes-before first (suc n) i h =
    grind (arith, indexes-before (suc first) n i (omega arith))

-- each index of those from the first one on is there once
pub indexes-once : (first n i : ℕ) → first ≤ i → i < first + n → occurs i (indexes first n) ≡ 1
indexes-once first zero i least most = let no : ⊥ = omega arith in absurd no
indexes-once first (suc n) i least most =
    elim (cases_eq first i) [
      | inl e ↦ grind (arith, indexes-before (suc first) n i (omega (arith, e)))
      | inr ne ↦ grind (arith, ne, indexes-once (suc first) n i (omega arith) (omega arith))
    ]

-- an index among those from the first one on is before their end
pub indexes-end : (first n i : ℕ) → 0 < occurs i (indexes first n) → i < first + n
indexes-end first zero i on = let no : ⊥ = omega (arith, on) in absurd no
indexes-end first (suc n) i on =
    elim (cases_eq first i) [
      | inl e ↦ omega (arith, e)
      | inr ne ↦ omega (arith, indexes-end (suc first) n i (grind (arith, ne, on)))
    ]

-- what stands on top of a stack of the indexes from one on: the index plus 1, and 0 where there is none
abbrev pub top_from : ℕ → ℕ → ℕ
top_from first count = if first == count then 0 else first + 1

-- the indexes from one on are a stack by the next words of opening
pub indexes-stacked :
    (next : ℕ → ℕ) (first n count : ℕ) → first + n ≡ count
    → ((i : ℕ) → i < count → next i ≡ next_index count i) → Stacked next (top_from first count) (indexes first n)
indexes-stacked next first zero count h is = cond-true (first == count) 0 (first + 1) (eq-eqb first count (omega arith))
indexes-stacked next first (suc n) count h is =
    let more : next first ≡ top_from (suc first) count = grind (arith, is first (omega arith)) in (
      cond-false (first == count) 0 (first + 1) (ne_eqb first count (λ e. let no : ⊥ = omega (arith, e) in no)),
      subst (λ top. Stacked next top (indexes (suc first) n)) (sym more) (indexes-stacked next (suc first) n count (omega arith) is),
    )

-- the indexes from one on are a chain, where each but the last leads to the one behind it
pub indexes-chained :
    (next : ℕ → ℕ) (first n count : ℕ) → first + n ≡ count → ((i : ℕ) → suc i < count → next i ≡ suc i)
    → chain_of next n first ≡ indexes first n
indexes-chained next first zero count h is = refl
indexes-chained next first (suc zero) count h is = refl
indexes-chained next first (suc (suc n)) count h is =
    rw (is first (omega arith)) (ap (λ xs. first ∷ xs) (indexes-chained next (suc first) (suc n) count (omega arith) is))
