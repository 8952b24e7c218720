-- What the handles of a row hold.
use Rattle.std.proofs.Common.{true, false, ◌+◌, ◌∙◌, sym, subst, ℕ, zero, suc, ◌≡◌, ◌≢◌, ◌<◌, ◌≤◌, Option, Some, None, List, [], ◌∷◌, length, get_or, refl, ap, arith}
use Rattle.std.specs.Prelude.{IsSomeAnd, is_some, slice_set}
use Rattle.std.proofs.lemmas.Bool.{false≢true}
use Rattle.std.proofs.lemmas.Bool.Decides.{eqb_tells, leb_tells}
use Rattle.std.proofs.lemmas.List.{length-set}
use Rattle.live_heap.specs.Heaps.{HeapFields}
use Rattle.balloc_c.specs.declared.hand.Hand.{Hand}
use Rattle.balloc_c.specs.declared.handle.PassHandle.{PassHandle}
use Rattle.balloc_c.specs.Opened.{AreEmpty, HoldNew, IsNew, held_at}
use Rattle.balloc_c.proofs.Slots.{by_case}

pub held-get : (handles : List PassHandle) (i : ℕ) (d : PassHandle) → i < length handles → held_at handles i ≡ (get_or handles i d).held.hand
held-get [] i d within = absurd (omega (arith, within))
held-get (x ∷ xs) zero d within = refl
held-get (x ∷ xs) (suc i) d within = held-get xs i d (omega (arith, within))

pub held-behind : (handles : List PassHandle) (i : ℕ) → length handles ≤ i → held_at handles i ≡ None
held-behind [] i past = refl
held-behind (x ∷ xs) zero past = absurd (omega (arith, past))
held-behind (x ∷ xs) (suc i) past = held-behind xs i (omega (arith, past))

pub held-set_same : (handles : List PassHandle) (i : ℕ) (x : PassHandle) → i < length handles → held_at (slice_set handles i x) i ≡ x.held.hand
held-set_same [] i x within = absurd (omega (arith, within))
held-set_same (y ∷ ys) zero x within = refl
held-set_same (y ∷ ys) (suc i) x within = held-set_same ys i x (omega (arith, within))

pub held-set_other : (handles : List PassHandle) (i j : ℕ) (x : PassHandle) → j ≢ i → held_at (slice_set handles i x) j ≡ held_at handles j
held-set_other [] i j x other = refl
held-set_other (y ∷ ys) zero zero x other = absurd (other refl)
held-set_other (y ∷ ys) zero (suc j) x other = refl
held-set_other (y ∷ ys) (suc i) zero x other = refl
held-set_other (y ∷ ys) (suc i) (suc j) x other = held-set_other ys i j x (λ same. other (ap suc same))

-- an option with nothing, and one with something
pub some-of : (held : Option Hand) → is_some held ≡ true → (hand : Hand) × (held ≡ Some hand)
some-of None is = absurd (false≢true is)
some-of (Some hand) is = (hand, refl)

none-of : (held : Option Hand) → is_some held ≡ false → held ≡ None
none-of None is = refl
none-of (Some hand) is = absurd (false≢true (sym is))

-- all handles are empty where those up to the last are
pub all-empty :
    (handles : List PassHandle) (i : ℕ) → ((k : ℕ) → k < i → held_at handles k ≡ None) → length handles ≤ i → AreEmpty handles
all-empty handles i each past k =
    by_case (λ behind. held-behind handles k behind.1) (λ before. each k (omega (arith, past, before.1))) (leb_tells (length handles) k)

pub item-held :
    (handles : List PassHandle) (i : ℕ) (item : PassHandle) → i < length handles → item ≡ get_or handles i item
    → held_at handles i ≡ item.held.hand
item-held handles i item within is = held-get handles i item within ∙ ap (λ (x : PassHandle). x.held.hand) (sym is)

-- a row with a handle that holds a pass isn't empty
pub not-empty :
    (handles : List PassHandle) (i : ℕ) (item : PassHandle) → i < length handles → item ≡ get_or handles i item
    → is_some item.held.hand ≡ true → AreEmpty handles → ⊥
not-empty handles i item within is live empty =
    false≢true (sym (ap is_some (sym (item-held handles i item within is) ∙ empty i)) ∙ live)

-- the handles up to one more hold no pass, where that one holds none
pub one-more-empty :
    (handles : List PassHandle) (i : ℕ) (item : PassHandle) → i < length handles → item ≡ get_or handles i item
    → is_some item.held.hand ≡ false → ((k : ℕ) → k < i → held_at handles k ≡ None) → (k : ℕ) → k < i + 1 → held_at handles k ≡ None
one-more-empty handles i item within is none each k low =
    by_case
    (λ at. subst (λ (n : ℕ). held_at handles n ≡ None) (sym at.1) (item-held handles i item within is ∙ none-of item.held.hand none))
    (λ apart. each k (omega (arith, low, apart.1))) (eqb_tells k i)

-- the handles up to one more hold no pass, where that one is emptied
pub emptied-one :
    (handles : List PassHandle) (i : ℕ) (x : PassHandle) → i < length handles → x.held.hand ≡ None
    → ((k : ℕ) → k < i → held_at handles k ≡ None) → (k : ℕ) → k < i + 1 → held_at (slice_set handles i x) k ≡ None
emptied-one handles i x within none each k low =
    by_case
    (λ at. subst (λ (n : ℕ). held_at (slice_set handles i x) n ≡ None) (sym at.1) (held-set_same handles i x within ∙ none))
    (λ apart. held-set_other handles i k x apart.1 ∙ each k (omega (arith, low, apart.1))) (eqb_tells k i)

-- the first handles hold new passes, and one more that is given one
pub given-one :
    (h : HeapFields) (depth : ℕ) (handles : List PassHandle) (i : ℕ) (x y : PassHandle) (hand : Hand) → i < length handles → y.held.hand ≡ Some hand
    → IsNew h i depth hand → HoldNew h depth i handles → HoldNew h depth (i + 1) (slice_set (slice_set handles i x) i y)
given-one h depth handles i x y hand within holds new each k low =
    let middle = slice_set handles i x in
    let there : i < length middle = subst (λ (n : ℕ). i < n) (sym (length-set handles i x)) within in
    by_case
    (λ at. subst (λ (n : ℕ). IsSomeAnd (held_at (slice_set middle i y) n) (IsNew h n depth)) (sym at.1)
    (subst (λ (o : Option Hand). IsSomeAnd o (IsNew h i depth)) (sym (held-set_same middle i y there ∙ holds)) new))
    (λ apart. subst (λ (o : Option Hand). IsSomeAnd o (IsNew h k depth)) (sym (held-set_other middle i k y apart.1 ∙ held-set_other handles i k x apart.1))
    (each k (omega (arith, low, apart.1)))) (eqb_tells k i)
