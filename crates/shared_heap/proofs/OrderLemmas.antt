-- Numbers that stand in a list once each.
use Rattle.std.proofs.Common.{ℕ, zero, suc, ◌≡◌, ◌≢◌, ◌<◌, ◌≤◌, ◌⊎◌, ◌||◌, inl, inr, ⊎_elim, Bool, true, false, eqb, eqb-true, ne_eqb, List, [], ◌∷◌, length, get_or, refl, sym, ap, subst, ◌∙◌, arith}
use Rattle.std.proofs.lemmas.Map.Keys.{IsDistinct-from_apart}
use Rattle.std.proofs.lemmas.Map.Steps.{length-le_from_distinct_below}
use Rattle.std.specs.List.{list_any}
use mathlib.Core.Option.{some, some-injective, some-ne-none}
use mathlib.Core.Logic.{dite}
use native.Mathlib.Decide.{ℕ_discrete}
use lib.ListN.{get_elem?}

abbrev pub Once : List ℕ → Type 0
Once l = (i j x : ℕ) → get_elem? l i ≡ some x → get_elem? l j ≡ some x → i ≡ j

abbrev pub Below : List ℕ → ℕ → Type 0
Below l n = (i x : ℕ) → get_elem? l i ≡ some x → x < n

abbrev pub Lacks : List ℕ → ℕ → Type 0
Lacks l x = (i : ℕ) → get_elem? l i ≡ some x → ⊥

here : (l : List ℕ) (i d : ℕ) → i < length l → get_elem? l i ≡ some (get_or l i d)
here [] i d low = absurd (omega (arith, low))
here (x ∷ xs) zero d low = refl
here (x ∷ xs) (suc i) d low = here xs i d (omega (arith, low))

any-there : (l : List ℕ) (q : ℕ) → list_any (eqb q) l ≡ true → (i : ℕ) × (get_elem? l i ≡ some q)
any-there [] q is = absurd (cc)
any-there (x ∷ xs) q is = first (any-there xs q) (eqb q x) refl is
  where
    first :
        (list_any (eqb q) xs ≡ true → (i : ℕ) × (get_elem? xs i ≡ some q)) → (b : Bool) → eqb q x ≡ b → (b || list_any (eqb q) xs) ≡ true
        → (i : ℕ) × (get_elem? (x ∷ xs) i ≡ some q)
    first later true same any = (zero, ap some (sym (eqb-true q x same)))
    first later false same any = let it = later any in (suc it.0, it.1)

-- numbers below n, each once, are n at most
pub fits : (l : List ℕ) (n : ℕ) → Once l → Below l n → length l ≤ n
fits l n once below =
    length-le_from_distinct_below l n
    (IsDistinct-from_apart eqb l
    (λ i j d less low.
    ne_eqb (get_or l i d) (get_or l j d)
    (λ same.
    let is : i ≡ j = once i j (get_or l i d) (here l i d (omega (arith, less, low))) (here l j d low ∙ ap some (sym same)) in omega (arith, is, less))))
    (λ q is. let it = any-there l q is in below it.0 q it.1)

pub once-more : (l : List ℕ) (x : ℕ) → Once l → Lacks l x → Once (x ∷ l)
once-more l x once lacks zero zero y at also = refl
once-more l x once lacks zero (suc j) y at also = absurd (lacks j (also ∙ sym at))
once-more l x once lacks (suc i) zero y at also = absurd (lacks i (at ∙ sym also))
once-more l x once lacks (suc i) (suc j) y at also = ap suc (once i j y at also)

pub below-more : (l : List ℕ) (x n : ℕ) → Below l n → x < n → Below (x ∷ l) n
below-more l x n below low zero y at = subst (λ (z : ℕ). z < n) (some-injective x y at) low
below-more l x n below low (suc i) y at = below i y at

find : (l : List ℕ) (x : ℕ) → ((i : ℕ) × (get_elem? l i ≡ some x)) ⊎ Lacks l x
find [] x = inr (λ i at. some-ne-none x (sym at))
find (y ∷ ys) x =
    dite (ℕ_discrete y x) (λ same. inl (zero, ap some same)) (λ apart. ⊎_elim (λ it. inl (suc it.0, it.1)) (λ lacks. inr (skip apart lacks)) (find ys x))
  where
    skip : y ≢ x → Lacks ys x → Lacks (y ∷ ys) x
    skip apart lacks zero at = apart (some-injective y x at)
    skip apart lacks (suc i) at = lacks i at

-- and where they are n, each number below n is one of them
pub all-there : (l : List ℕ) (n x : ℕ) → Once l → Below l n → length l ≡ n → x < n → (i : ℕ) × (get_elem? l i ≡ some x)
all-there l n x once below many low =
    ⊎_elim (λ it. it)
    (λ lacks. let more : suc (length l) ≤ n = fits (x ∷ l) n (once-more l x once lacks) (below-more l x n below low) in absurd (omega (arith, more, many)))
    (find l x)
