-- A slice written over some numbers of a longer list.
use Rattle.std.proofs.Common.{ℕ, ◌≡◌, ◌≤◌, ◌+◌, List, [], ◌∷◌, ◌++◌, length, take, drop, refl, sym, ap, ◌∙◌, arith}
use Rattle.std.proofs.lemmas.List.{length-append, length-drop, length-take-le}

-- the list, with these numbers over its own, from one on
abbrev pub written_over : List ℕ → ℕ → List ℕ → List ℕ
written_over ns first from = take first ns ++ (from ++ drop (first + length from) ns)

pub over-long : (ns : List ℕ) (first : ℕ) (from : List ℕ) → first + length from ≤ length ns → length (written_over ns first from) ≡ length ns
over-long ns first from few =
    let rest : List ℕ = drop (first + length from) ns in
    omega (arith, length-append (take first ns) (from ++ rest), length-append from rest, length-drop (first + length from) ns, length-take-le first ns (omega (arith, few)), few)

front-dropped : (xs ys : List ℕ) → drop (length xs) (xs ++ ys) ≡ ys
front-dropped [] ys = refl
front-dropped (x ∷ xs) ys = front-dropped xs ys

front-taken : (xs ys : List ℕ) → take (length xs) (xs ++ ys) ≡ xs
front-taken [] ys = refl
front-taken (x ∷ xs) ys = ap (λ (l : List ℕ). x ∷ l) (front-taken xs ys)

-- they stand there
pub over-part :
    (ns : List ℕ) (first : ℕ) (from : List ℕ) → first + length from ≤ length ns → take (length from) (drop first (written_over ns first from)) ≡ from
over-part ns first from few =
    let rest : List ℕ = drop (first + length from) ns in
    let starts : length (take first ns) ≡ first = length-take-le first ns (omega (arith, few)) in
    ap (λ k. take (length from) (drop k (written_over ns first from))) (sym starts)
    ∙ ap (take (length from)) (front-dropped (take first ns) (from ++ rest)) ∙ front-taken from rest
