-- Lists of blocks that are out, and what is left of one where a block is home again.
use Rattle.std.proofs.Common.{ℕ, zero, suc, ◌≡◌, ◌≢◌, List, [], ◌∷◌, ◌++◌, length, refl, sym, ap, arith, eq-eqb, ne_eqb}
use Rattle.std.proofs.lemmas.List.{length-append}
use mathlib.Core.Option.{some, some-injective, some-ne-none}
use lib.ListN.{get_elem?}
use Rattle.live_heap.specs.declared.view.Lent.{Lent}
use Rattle.live_heap.specs.Memory.{all_but}

-- where a block of the list that is left stood before
abbrev pub skip : ℕ → ℕ → ℕ
skip zero m = suc m
skip (suc n) zero = zero
skip (suc n) (suc m) = suc (skip n m)

pub skip-at :
    (front : List Lent) (b : Lent) (back : List Lent) (m : ℕ) (x : Lent) → get_elem? (front ++ back) m ≡ some x
    → get_elem? (front ++ b ∷ back) (skip (length front) m) ≡ some x
skip-at [] b back m x at = at
skip-at (f ∷ front) b back zero x at = at
skip-at (f ∷ front) b back (suc m) x at = skip-at front b back m x at

pub skip-other : (n m : ℕ) → skip n m ≢ n
skip-other zero m same = omega (arith, same)
skip-other (suc n) zero same = omega (arith, same)
skip-other (suc n) (suc m) same = skip-other n m (omega (arith, same))

pub skip-once : (n i j : ℕ) → skip n i ≡ skip n j → i ≡ j
skip-once zero i j same = omega (arith, same)
skip-once (suc n) zero zero same = refl
skip-once (suc n) zero (suc j) same = absurd (omega (arith, same))
skip-once (suc n) (suc i) zero same = absurd (omega (arith, same))
skip-once (suc n) (suc i) (suc j) same = ap suc (skip-once n i j (omega (arith, same)))

-- the block itself stands behind those in front of it
pub here-at : (front : List Lent) (b : Lent) (back : List Lent) → get_elem? (front ++ b ∷ back) (length front) ≡ some b
here-at [] b back = refl
here-at (f ∷ front) b back = here-at front b back

-- who stands in the list and isn't the block at this place is left
pub still-at :
    (front : List Lent) (b : Lent) (back : List Lent) (n : ℕ) (x : Lent) → get_elem? (front ++ b ∷ back) n ≡ some x → x.place ≢ b.place
    → (m : ℕ) × (get_elem? (front ++ back) m ≡ some x)
still-at [] b back zero x at other = absurd (other (ap (λ (l : Lent). l.place) (sym (some-injective b x at))))
still-at [] b back (suc n) x at other = (n, at)
still-at (f ∷ front) b back zero x at other = (0, at)
still-at (f ∷ front) b back (suc n) x at other = let t = still-at front b back n x at other in (suc t.0, t.1)

-- a list with a block at the place n is cut there
pub cut-at :
    (blocks : List Lent) (n : ℕ) (b : Lent) → get_elem? blocks n ≡ some b
    → (front : List Lent) × (back : List Lent) × (blocks ≡ front ++ b ∷ back)
cut-at [] n b at = absurd (some-ne-none b (sym at))
cut-at (x ∷ blocks) zero b at = ([], blocks, ap (λ (y : Lent). y ∷ blocks) (some-injective x b at))
cut-at (x ∷ blocks) (suc n) b at =
    let t = cut-at blocks n b at in
    (x ∷ t.0, t.1, ap (λ (l : List Lent). x ∷ l) t.2)

-- one is left less
pub one-less : (front : List Lent) (b : Lent) (back : List Lent) → length (front ++ b ∷ back) ≡ suc (length (front ++ back))
one-less front b back = omega (arith, length-append front (b ∷ back), length-append front back)

-- the first block of the list at the place is taken away
pub all-but-first : (place : ℕ) (b : Lent) (back : List Lent) → b.place ≡ place → all_but place (b ∷ back) ≡ back
all-but-first place b back here = rw (eq-eqb b.place place here) refl

pub all-but-is :
    (place : ℕ) (front : List Lent) (b : Lent) (back : List Lent) → b.place ≡ place
    → ((m : ℕ) (x : Lent) → get_elem? (front ++ back) m ≡ some x → x.place ≢ place) → all_but place (front ++ b ∷ back) ≡ front ++ back
all-but-is place [] b back here others = all-but-first place b back here
all-but-is place (f ∷ front) b back here others =
    rw (ne_eqb f.place place (others 0 f refl)) (ap (λ (l : List Lent). f ∷ l) (all-but-is place front b back here (λ m x at. others (suc m) x at)))
