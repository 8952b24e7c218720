-- What the seats of a row hold.
use Rattle.std.proofs.Common.{true, false, ◌+◌, ◌∙◌, sym, subst, ℕ, zero, suc, ◌≡◌, ◌≢◌, ◌<◌, ◌≤◌, Option, Some, None, List, [], ◌∷◌, length, get_or, refl, ap, arith, inl, inr, ◌⊎◌}
use Rattle.std.specs.Prelude.{IsSomeAnd, is_some, slice_set}
use Rattle.std.proofs.lemmas.Bool.{false≢true}
use Rattle.std.proofs.lemmas.Bool.Decides.{eqb_tells, leb_tells}
use Rattle.std.proofs.lemmas.List.{length-set}
use Rattle.live_heap.specs.Heaps.{HeapFields}
use Rattle.balloc_malloc.specs.declared.tenant.Tenant.{Tenant}
use Rattle.balloc_malloc.specs.declared.seat.ThreadSeat.{ThreadSeat}
use Rattle.balloc_malloc.specs.Opened.{AreEmpty, HoldNew, IsNew, held_at}

pub by_case : {A B C : Type 0} → (A → C) → (B → C) → A ⊎ B → C
by_case f g (inl a) = f a
by_case f g (inr b) = g b

pub held-get : (seats : List ThreadSeat) (i : ℕ) (d : ThreadSeat) → i < length seats → held_at seats i ≡ (get_or seats i d).held.tenant
held-get [] i d within = absurd (omega (arith, within))
held-get (x ∷ xs) zero d within = refl
held-get (x ∷ xs) (suc i) d within = held-get xs i d (omega (arith, within))

pub held-behind : (seats : List ThreadSeat) (i : ℕ) → length seats ≤ i → held_at seats i ≡ None
held-behind [] i past = refl
held-behind (x ∷ xs) zero past = absurd (omega (arith, past))
held-behind (x ∷ xs) (suc i) past = held-behind xs i (omega (arith, past))

pub held-set_same : (seats : List ThreadSeat) (i : ℕ) (x : ThreadSeat) → i < length seats → held_at (slice_set seats i x) i ≡ x.held.tenant
held-set_same [] i x within = absurd (omega (arith, within))
held-set_same (y ∷ ys) zero x within = refl
held-set_same (y ∷ ys) (suc i) x within = held-set_same ys i x (omega (arith, within))

pub held-set_other : (seats : List ThreadSeat) (i j : ℕ) (x : ThreadSeat) → j ≢ i → held_at (slice_set seats i x) j ≡ held_at seats j
held-set_other [] i j x other = refl
held-set_other (y ∷ ys) zero zero x other = absurd (other refl)
held-set_other (y ∷ ys) zero (suc j) x other = refl
held-set_other (y ∷ ys) (suc i) zero x other = refl
held-set_other (y ∷ ys) (suc i) (suc j) x other = held-set_other ys i j x (λ same. other (ap suc same))

-- an option with nothing, and one with something
pub some-of : (held : Option Tenant) → is_some held ≡ true → (tenant : Tenant) × (held ≡ Some tenant)
some-of None is = absurd (false≢true is)
some-of (Some tenant) is = (tenant, refl)

none-of : (held : Option Tenant) → is_some held ≡ false → held ≡ None
none-of None is = refl
none-of (Some tenant) is = absurd (false≢true (sym is))

-- all seats are empty where those up to the last are
pub all-empty :
    (seats : List ThreadSeat) (i : ℕ) → ((k : ℕ) → k < i → held_at seats k ≡ None) → length seats ≤ i → AreEmpty seats
all-empty seats i each past k =
    by_case (λ behind. held-behind seats k behind.1) (λ before. each k (omega (arith, past, before.1))) (leb_tells (length seats) k)

pub item-held :
    (seats : List ThreadSeat) (i : ℕ) (item : ThreadSeat) → i < length seats → item ≡ get_or seats i item
    → held_at seats i ≡ item.held.tenant
item-held seats i item within is = held-get seats i item within ∙ ap (λ (x : ThreadSeat). x.held.tenant) (sym is)

-- a row with a seat that has a tenant isn't empty
pub not-empty :
    (seats : List ThreadSeat) (i : ℕ) (item : ThreadSeat) → i < length seats → item ≡ get_or seats i item
    → is_some item.held.tenant ≡ true → AreEmpty seats → ⊥
not-empty seats i item within is live empty =
    false≢true (sym (ap is_some (sym (item-held seats i item within is) ∙ empty i)) ∙ live)

-- the seats up to one more have no tenant, where that one has none
pub one-more-empty :
    (seats : List ThreadSeat) (i : ℕ) (item : ThreadSeat) → i < length seats → item ≡ get_or seats i item
    → is_some item.held.tenant ≡ false → ((k : ℕ) → k < i → held_at seats k ≡ None) → (k : ℕ) → k < i + 1 → held_at seats k ≡ None
one-more-empty seats i item within is none each k low =
    by_case
    (λ at. subst (λ (n : ℕ). held_at seats n ≡ None) (sym at.1) (item-held seats i item within is ∙ none-of item.held.tenant none))
    (λ apart. each k (omega (arith, low, apart.1))) (eqb_tells k i)

-- the seats up to one more have no tenant, where that one is emptied
pub emptied-one :
    (seats : List ThreadSeat) (i : ℕ) (x : ThreadSeat) → i < length seats → x.held.tenant ≡ None
    → ((k : ℕ) → k < i → held_at seats k ≡ None) → (k : ℕ) → k < i + 1 → held_at (slice_set seats i x) k ≡ None
emptied-one seats i x within none each k low =
    by_case
    (λ at. subst (λ (n : ℕ). held_at (slice_set seats i x) n ≡ None) (sym at.1) (held-set_same seats i x within ∙ none))
    (λ apart. held-set_other seats i k x apart.1 ∙ each k (omega (arith, low, apart.1))) (eqb_tells k i)

-- the first seats hold new passes, and one more that is given one
pub given-one :
    (h : HeapFields) (depth : ℕ) (seats : List ThreadSeat) (i : ℕ) (x y : ThreadSeat) (tenant : Tenant) → i < length seats → y.held.tenant ≡ Some tenant
    → IsNew h i depth tenant → HoldNew h depth i seats → HoldNew h depth (i + 1) (slice_set (slice_set seats i x) i y)
given-one h depth seats i x y tenant within holds new each k low =
    let middle = slice_set seats i x in
    let there : i < length middle = subst (λ (n : ℕ). i < n) (sym (length-set seats i x)) within in
    by_case
    (λ at. subst (λ (n : ℕ). IsSomeAnd (held_at (slice_set middle i y) n) (IsNew h n depth)) (sym at.1)
    (subst (λ (o : Option Tenant). IsSomeAnd o (IsNew h i depth)) (sym (held-set_same middle i y there ∙ holds)) new))
    (λ apart. subst (λ (o : Option Tenant). IsSomeAnd o (IsNew h k depth)) (sym (held-set_other middle i k y apart.1 ∙ held-set_other seats i k x apart.1))
    (each k (omega (arith, low, apart.1)))) (eqb_tells k i)
