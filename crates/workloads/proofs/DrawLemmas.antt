-- One thing made by draws behind another.
use Rattle.std.proofs.Common.{◌≡◌, List, ◌++◌, refl, ap, subst, append_assoc}
use Rattle.rand_pcg.specs.Lcg.{Lcg}
use Rattle.workloads.specs.Draws.{Draws, just, ◌>>=◌, behind}

-- one thing drawn, and what follows it drawn behind it, are the two drawn in a row
pub followed :
    {A B : Type 0} (first : Draws A) (next : A → Draws B) (g h : Lcg) (x : A) (y : B × Lcg) → (x, h) ≡ first g → y ≡ next x h
    → y ≡ (first >>= next) g
followed first next g h x y is e = subst (λ p. y ≡ next p.0 p.1) is e

-- items behind a list, and more of them behind those, are all of them drawn in a row behind the list
pub extended :
    {X : Type 0} (first next : Draws (List X)) (old ops more : List X) (g h k : Lcg) → (ops, h) ≡ behind old (first g) → (more, k) ≡ next h
    → (ops ++ more, k) ≡ behind old ((first >>= λ before. next >>= λ m. just (before ++ m)) g)
extended {X} first next old ops more g h k is e =
    let Made : Type 0 = List X × Lcg in
    let front : ops ≡ old ++ (first g).0 = ap (λ (p : Made). p.0) is in
    let left : h ≡ (first g).1 = ap (λ (p : Made). p.1) is in
    let drawn : (more, k) ≡ next (first g).1 = rw (← left) e in
    let start : ◌≡◌ {A = Made} ((old ++ (first g).0) ++ more, k) (old ++ ((first g).0 ++ more), k) = rw append_assoc refl in
    rw front (subst (λ (p : Made). ◌≡◌ {A = Made} ((old ++ (first g).0) ++ more, k) (old ++ ((first g).0 ++ p.0), p.1)) drawn start)

-- items that were drawn, put behind a list, are drawn behind the list
pub placed : {X : Type 0} (before more : List X) (k : Lcg) (made : List X × Lcg) → (more, k) ≡ made → (before ++ more, k) ≡ behind before made
placed before more k made is = rw (← is) refl
