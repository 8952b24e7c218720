-- The slots of a lane: the blocks that it keeps, and behind them its registers. A block that goes from one slot to another makes no event.
use Rattle.std.proofs.Common.{ℕ, zero, suc, eqb, cond, ◌≡◌, ◌≢◌, ◌+◌, ◌<◌, ◌∷◌, ◌++◌, List, [], Option, Some, None, map, length, set, refl, sym, ◌∙◌, ap, subst, inl, inr, arith, eq-eqb, ne_eqb, pred}
use Rattle.std.specs.Prelude.{IsPermutation}
use Rattle.std.specs.List.{swap}
use Rattle.std.proofs.lemmas.Bool.{cases_eq, cases_lt}
use Rattle.std.proofs.lemmas.List.{set_past}
use Rattle.std.proofs.lemmas.List.Edits.{swapped_from_swap}
use Rattle.std.proofs.lemmas.List.Sorted.{IsPermutation-keeps, IsPermutation-middle, IsPermutation-trans, IsPermutation-cons, IsPermutation-map, IsPermutation-append_left}
use Rattle.pool_model.specs.Pool.{Pool}
use Rattle.lane_outcomes.specs.declared.registers.HeldBlock.{HeldBlock}
use Rattle.lane_outcomes.specs.Lane.{held_in}
use Rattle.lane_outcomes.specs.Standing.{HoldsOwn}
use Rattle.lane_outcomes.proofs.HoldLemmas.{held-inside, holds-first}

abbrev pub slots : List HeldBlock → List (Option HeldBlock) → List (Option HeldBlock)
slots kept registers = map (λ held. Some held) kept ++ registers

-- slots that hold what others hold, each at another number, hold the caller's blocks too
holds-by :
    (pool : Pool) (caller : ℕ) (old new : List (Option HeldBlock)) (to : ℕ → ℕ) → ((r : ℕ) → to (to r) ≡ r) → ((r : ℕ) → held_in new r ≡ held_in old (to r))
    → HoldsOwn pool caller old → HoldsOwn pool caller new
holds-by pool caller old new to back same h =
    record {
      owned = λ r held full. h.owned (to r) held (sym (same r) ∙ full);
      once = λ r q held other at_r at_q differ. h.once (to r) (to q) held other (sym (same r) ∙ at_r) (sym (same q) ∙ at_q)
          (λ e. differ (sym (back r) ∙ ap to e ∙ back q));
    }

-- two numbers in each other's place
abbrev pub exchanged : ℕ → ℕ → ℕ → ℕ
exchanged i j r = cond (eqb r i) j (cond (eqb r j) i r)

exchanged-first : (i j : ℕ) → exchanged i j i ≡ j
exchanged-first i j = rw (eq-eqb i i refl) refl

exchanged-second : (i j : ℕ) → exchanged i j j ≡ i
exchanged-second i j =
    elim (cases_eq j i) [
      | inl same ↦ rw (eq-eqb j i same) same
      | inr other ↦ rw (ne_eqb j i other, eq-eqb j j refl) refl
    ]

exchanged-other : (i j r : ℕ) → r ≢ i → r ≢ j → exchanged i j r ≡ r
exchanged-other i j r first second = rw (ne_eqb r i first, ne_eqb r j second) refl

exchanged-back : (i j r : ℕ) → exchanged i j (exchanged i j r) ≡ r
exchanged-back i j r =
    elim (cases_eq r i) [
      | inl first ↦ ap (λ k. exchanged i j (exchanged i j k)) first ∙ ap (exchanged i j) (exchanged-first i j) ∙ exchanged-second i j ∙ sym first
      | inr apart ↦ elim (cases_eq r j) [
        | inl second ↦ ap (λ k. exchanged i j (exchanged i j k)) second ∙ ap (exchanged i j) (exchanged-second i j) ∙ exchanged-first i j ∙ sym second
        | inr other ↦ ap (exchanged i j) (exchanged-other i j r apart other) ∙ exchanged-other i j r apart other
      ]
    ]

pub held-exchanged :
    (old : List (Option HeldBlock)) (i j : ℕ) → i < length old → j < length old
    → (r : ℕ) → held_in (swap old i j) r ≡ held_in old (exchanged i j r)
held-exchanged old i j below under r =
    let moved = swapped_from_swap old (swap old i j) i j None below under refl in
    elim (cases_eq r i) [
      | inl first ↦ ap (held_in (swap old i j)) first ∙ moved.0 ∙ ap (held_in old) (sym (exchanged-first i j) ∙ ap (exchanged i j) (sym first))
      | inr apart ↦ elim (cases_eq r j) [
        | inl second ↦ ap (held_in (swap old i j)) second ∙ moved.1 ∙ ap (held_in old) (sym (exchanged-second i j) ∙ ap (exchanged i j) (sym second))
        | inr other ↦ moved.2 r apart other ∙ ap (held_in old) (sym (exchanged-other i j r apart other))
      ]
    ]

-- slots in another order hold the caller's blocks too
pub holds-shuffled :
    (pool : Pool) (caller : ℕ) (old new : List (Option HeldBlock)) → IsPermutation old new → HoldsOwn pool caller old → HoldsOwn pool caller new
holds-shuffled pool caller old new shuffled h =
    IsPermutation-keeps old (HoldsOwn pool caller) h
    (λ now i j below under holds.
    holds-by pool caller now (swap now i j) (exchanged i j) (exchanged-back i j) (held-exchanged now i j below under) holds)
    new shuffled

-- slots without the first one hold the caller's blocks too
pub holds-rest : (pool : Pool) (caller : ℕ) (first : Option HeldBlock) (rest : List (Option HeldBlock)) → HoldsOwn pool caller (first ∷ rest) → HoldsOwn pool caller rest
holds-rest pool caller first rest h =
    record {
      owned = λ r held full. h.owned (suc r) held full;
      once = λ r q held other at_r at_q differ. h.once (suc r) (suc q) held other at_r at_q (λ e. differ (ap pred e));
    }

-- the first slot and a register in each other's place
first-exchanged :
    (first : Option HeldBlock) (registers : List (Option HeldBlock)) (r : ℕ) → r < length registers
    → IsPermutation (first ∷ registers) (held_in registers r ∷ set registers r first)
first-exchanged first [] r below = absurd (omega arith)
first-exchanged first (register ∷ registers) zero below = IsPermutation-middle (first ∷ []) register registers
first-exchanged first (register ∷ registers) (suc r) below =
    IsPermutation-trans _ _ _ (IsPermutation-middle (first ∷ []) register registers)
    (IsPermutation-trans _ _ _ (IsPermutation-cons register _ _ (first-exchanged first registers r (omega arith)))
    (IsPermutation-middle (register ∷ []) (held_in registers r) (set registers r first)))

pub slot-exchanged :
    (first : Option HeldBlock) (kept : List HeldBlock) (registers : List (Option HeldBlock)) (r : ℕ) → r < length registers
    → IsPermutation (first ∷ slots kept registers) (held_in registers r ∷ slots kept (set registers r first))
slot-exchanged first [] registers r below = first-exchanged first registers r below
slot-exchanged first (held ∷ kept) registers r below =
    IsPermutation-trans _ _ _ (IsPermutation-middle (first ∷ []) (Some held) (slots kept registers))
    (IsPermutation-trans _ _ _ (IsPermutation-cons (Some held) _ _ (slot-exchanged first kept registers r below))
    (IsPermutation-middle (Some held ∷ []) (held_in registers r) (slots kept (set registers r first))))

-- a register's block is kept
pub holds-lifted :
    (pool : Pool) (caller r : ℕ) (held : HeldBlock) (kept : List HeldBlock) (registers : List (Option HeldBlock)) → held_in registers r ≡ Some held
    → HoldsOwn pool caller (slots kept registers) → HoldsOwn pool caller (slots (held ∷ kept) (set registers r None))
holds-lifted pool caller r held kept registers full h =
    holds-shuffled pool caller (None ∷ slots kept registers) (slots (held ∷ kept) (set registers r None))
    (subst (λ first. IsPermutation (None ∷ slots kept registers) (first ∷ slots kept (set registers r None))) full
    (slot-exchanged None kept registers r (held-inside registers r held full)))
    (holds-first pool caller None (slots kept registers) (λ held e. absurd (let none : None ≡ Some held = e in cc)) h)

-- a block that was kept is given to a register
pub holds-served :
    (pool : Pool) (caller r : ℕ) (held : HeldBlock) (kept : List HeldBlock) (registers : List (Option HeldBlock))
    → HoldsOwn pool caller (slots (held ∷ kept) registers) → HoldsOwn pool caller (slots kept (set registers r (Some held)))
holds-served pool caller r held kept registers h =
    elim (cases_lt r (length registers)) [
      | inl within ↦
          holds-rest pool caller (held_in registers r) (slots kept (set registers r (Some held)))
          (holds-shuffled pool caller (slots (held ∷ kept) registers) _ (slot-exchanged (Some held) kept registers r within) h)
      | inr past ↦
          subst (λ after. HoldsOwn pool caller (slots kept after)) (sym (set_past registers r (Some held) past))
          (holds-rest pool caller (Some held) (slots kept registers) h)
    ]

pub holds-reordered :
    (pool : Pool) (caller : ℕ) (kept others : List HeldBlock) (registers : List (Option HeldBlock)) → IsPermutation kept others
    → HoldsOwn pool caller (slots kept registers) → HoldsOwn pool caller (slots others registers)
holds-reordered pool caller kept others registers shuffled h =
    holds-shuffled pool caller (slots kept registers) (slots others registers)
    (IsPermutation-append_left registers _ _ (IsPermutation-map (λ held. Some held) kept others shuffled)) h

-- a register is a slot behind those that are kept
pub slot-held : (kept : List HeldBlock) (registers : List (Option HeldBlock)) (r : ℕ) → held_in (slots kept registers) (length kept + r) ≡ held_in registers r
slot-held [] registers r = let same : 0 + r ≡ r = omega arith in ap (held_in registers) same
slot-held (held ∷ kept) registers r =
    let next : suc (length kept) + r ≡ suc (length kept + r) = omega arith in
    ap (held_in (slots (held ∷ kept) registers)) next ∙ slot-held kept registers r
