-- A stack is one list, of indexes that exist.
use Rattle.std.proofs.Common.{ℕ, ◌≡◌, List, [], ◌∷◌, refl, ◌∙◌, sym, ap, subst, arith, ◌+◌, ◌<◌, ◌≤◌, ◌==◌, All, eq-eqb}
use Rattle.std.proofs.lemmas.Bool.{cond-true}
use Rattle.std.proofs.lemmas.List.Elements.{All-head}
use Rattle.sound_state.proofs.Common.{Geometry, CLASSES, head_of, SeatFields, occurs, head_name, Stacked, next_in, Pile, State, Lists, IsListed, pile_limit, list_of}

-- a stack is one list only
pub stacked-same : (next : ℕ → ℕ) (top : ℕ) (xs ys : List ℕ) → Stacked next top xs → Stacked next top ys → xs ≡ ys
stacked-same next top [] [] a b = refl
stacked-same next top [] (y ∷ ys) a b = absurd (omega (arith, a, b.0))
stacked-same next top (x ∷ xs) [] a b = absurd (omega (arith, a.0, b))
stacked-same next top (x ∷ xs) (y ∷ ys) a b =
    let first : y ≡ x = omega (arith, a.0, b.0) in
    let rest : xs ≡ ys = stacked-same next (next x) xs ys a.1 (subst (λ i. Stacked next (next i) ys) first b.1) in
    ap (λ zs. x ∷ zs) rest ∙ ap (λ i. i ∷ ys) (sym first)

-- a stack whose top is 0 is empty
pub stacked-none : (next : ℕ → ℕ) (top : ℕ) (xs : List ℕ) → Stacked next top xs → top ≡ 0 → xs ≡ []
stacked-none next top [] stacked none = refl
stacked-none next top (x ∷ xs) stacked none = absurd (let bad : ⊥ = omega (arith, stacked.0, none) in bad)

-- a stack whose indexes have the same next words is the same list
pub stacked-agrees :
    (next next' : ℕ → ℕ) (top : ℕ) (xs : List ℕ) → ((j : ℕ) → 0 < occurs j xs → next' j ≡ next j) → Stacked next top xs
    → Stacked next' top xs
stacked-agrees next next' top [] same stack = stack
stacked-agrees next next' top (x ∷ xs) same stack =
    let once : occurs x (x ∷ xs) ≡ 1 + occurs x xs = ap (λ n. n + occurs x xs) (cond-true {A = ℕ} (x == x) 1 0 (eq-eqb x x refl)) in
    let here : next' x ≡ next x = same x (omega (arith, once)) in
    (stack.0, rw here (stacked-agrees next next' (next x) xs (λ j on. same j (omega (arith, on))) stack.1))

-- the top of a stack exists where its list's indexes do
pub top-exists :
    (next : ℕ → ℕ) (top limit : ℕ) (xs : List ℕ) → Stacked next top xs → All (λ i. i < limit) xs → top ≤ limit
top-exists next top limit [] stack exist = omega (arith, stack)
top-exists next top limit (x ∷ xs) stack exist = omega (arith, stack.0, All-head (λ i. i < limit) x xs exist)

-- the indexes of a pile's list exist
pub pile-exists :
    (g : Geometry) (s : State) (l : Lists) (seat : SeatFields) (pile : Pile) → IsListed g s.word l → seat.class < CLASSES
    → All (λ i. i < pile_limit g pile) (list_of l seat pile)
pile-exists g s l seat pile listed has = grind (arith, listed, has)

-- the stack of a pile is the list of the sound state
pub pile-stacked :
    (g : Geometry) (s : State) (l : Lists) (seat : SeatFields) (pile : Pile) → IsListed g s.word l → seat.class < CLASSES
    → Stacked (next_in s.word pile) (head_of (s.word (head_name seat pile))).top (list_of l seat pile)
pile-stacked g s l seat pile listed has = grind (arith, listed, has)
