-- Lists that go round some shelves in turn: where each shelf's part is a first part, so is the whole.
use Rattle.std.proofs.Common.{ℕ, suc, eqb, ◌≡◌, ◌≢◌, ◌+◌, List, [], ◌∷◌, ◌++◌, length, refl, sym, ◌∙◌, ap, subst, inl, inr, eq-eqb, ne_eqb, arith}
use Rattle.std.specs.Prelude.{if◌then◌else◌}
use Rattle.std.proofs.lemmas.Bool.{cases_Bool, cases_eq}
use Rattle.pool_model.specs.Parcels.{Parcel}
use Rattle.shelf_laws.specs.Quiet.{IsPrefix}

-- the parcels of a list whose turn is the shelf's, where the first one has the c-th turn
abbrev pub column : (ℕ → ℕ) → ℕ → ℕ → List Parcel → List Parcel
column turn shelf c [] = []
column turn shelf c (x ∷ xs) = if eqb (turn c) shelf then x ∷ column turn shelf (suc c) xs else column turn shelf (suc c) xs

pub column-here :
    (turn : ℕ → ℕ) (shelf c : ℕ) (x : Parcel) (xs : List Parcel) → turn c ≡ shelf
    → column turn shelf c (x ∷ xs) ≡ x ∷ column turn shelf (suc c) xs
column-here turn shelf c x xs is = rw (eq-eqb (turn c) shelf is) refl

pub column-else :
    (turn : ℕ → ℕ) (shelf c : ℕ) (x : Parcel) (xs : List Parcel) → turn c ≢ shelf
    → column turn shelf c (x ∷ xs) ≡ column turn shelf (suc c) xs
column-else turn shelf c x xs ne = rw (ne_eqb (turn c) shelf ne) refl

-- a shelf that no turn is has no parcel of a list in its column
pub column-none : (turn : ℕ → ℕ) (shelf c : ℕ) (xs : List Parcel) → ((i : ℕ) → turn i ≢ shelf) → column turn shelf c xs ≡ []
column-none turn shelf c [] none = refl
column-none turn shelf c (x ∷ xs) none = column-else turn shelf c x xs (none c) ∙ column-none turn shelf (suc c) xs none

-- the column of a list with one parcel more at its end
pub column-push :
    (turn : ℕ → ℕ) (shelf c : ℕ) (xs : List Parcel) (x : Parcel)
    → column turn shelf c (xs ++ x ∷ []) ≡ column turn shelf c xs ++ (if eqb (turn (c + length xs)) shelf then x ∷ [] else [])
column-push turn shelf c [] x =
    let at : c + 0 ≡ c = omega arith in
    ap (λ (n : ℕ). if eqb (turn n) shelf then x ∷ [] else []) (sym at)
column-push turn shelf c (y ∷ xs) x =
    let at : suc c + length xs ≡ c + suc (length xs) = omega arith in
    let more : column turn shelf (suc c) (xs ++ x ∷ [])
    ≡ column turn shelf (suc c) xs ++ (if eqb (turn (c + suc (length xs))) shelf then x ∷ [] else []) =
    column-push turn shelf (suc c) xs x
    ∙ ap (λ (n : ℕ). column turn shelf (suc c) xs ++ (if eqb (turn n) shelf then x ∷ [] else [])) at in
    elim (cases_Bool (eqb (turn c) shelf)) [
      | inl here ↦ rw here (ap (λ (l : List Parcel). y ∷ l) more)
      | inr past ↦ rw past more
    ]

-- what two columns that begin with their turn say of what follows there, and elsewhere
column-heads :
    (turn : ℕ → ℕ) (c : ℕ) (x y : Parcel) (xs ys rest : List Parcel)
    → column turn (turn c) c (y ∷ ys) ≡ column turn (turn c) c (x ∷ xs) ++ rest
    → (y ≡ x) × (column turn (turn c) (suc c) ys ≡ column turn (turn c) (suc c) xs ++ rest)
column-heads turn c x y xs ys rest is =
    let first : column turn (turn c) c (y ∷ ys) ≡ y ∷ column turn (turn c) (suc c) ys = column-here turn (turn c) c y ys refl in
    let second : column turn (turn c) c (x ∷ xs) ++ rest ≡ x ∷ (column turn (turn c) (suc c) xs ++ rest) =
    ap (λ (l : List Parcel). l ++ rest) (column-here turn (turn c) c x xs refl) in
    let e : y ∷ column turn (turn c) (suc c) ys ≡ x ∷ (column turn (turn c) (suc c) xs ++ rest) = sym first ∙ is ∙ second in
    (cc, cc)

column-past :
    (turn : ℕ → ℕ) (shelf c : ℕ) (x y : Parcel) (xs ys : List Parcel) → turn c ≢ shelf
    → IsPrefix (column turn shelf c (x ∷ xs)) (column turn shelf c (y ∷ ys))
    → IsPrefix (column turn shelf (suc c) xs) (column turn shelf (suc c) ys)
column-past turn shelf c x y xs ys ne is = (
  is.0,
  sym (column-else turn shelf c y ys ne) ∙ is.1 ∙ ap (λ (l : List Parcel). l ++ is.0) (column-else turn shelf c x xs ne),
)

-- an empty list begins with no column of a list whose first parcel has its turn
column-ends :
    (turn : ℕ → ℕ) (c : ℕ) (x : Parcel) (xs rest : List Parcel) → [] ≢ column turn (turn c) c (x ∷ xs) ++ rest
column-ends turn c x xs rest is =
    let e : [] ≡ x ∷ (column turn (turn c) (suc c) xs ++ rest) =
    is ∙ ap (λ (l : List Parcel). l ++ rest) (column-here turn (turn c) c x xs refl) in
    absurd (cc)

pub columns-prefix :
    (turn : ℕ → ℕ) (c : ℕ) (xs ys : List Parcel)
    → ((shelf : ℕ) → IsPrefix (column turn shelf c xs) (column turn shelf c ys)) → IsPrefix xs ys
columns-prefix turn c [] ys each = (ys, refl)
columns-prefix turn c (x ∷ xs) [] each = absurd (column-ends turn c x xs (each (turn c)).0 (each (turn c)).1)
columns-prefix turn c (x ∷ xs) (y ∷ ys) each =
    let heads = column-heads turn c x y xs ys (each (turn c)).0 (each (turn c)).1 in
    let rest : (shelf : ℕ) → IsPrefix (column turn shelf (suc c) xs) (column turn shelf (suc c) ys) = λ shelf.
    elim (cases_eq (turn c) shelf) [
      | inl is ↦
          subst (λ (k : ℕ). IsPrefix (column turn k (suc c) xs) (column turn k (suc c) ys)) is ((each (turn c)).0, heads.1)
      | inr ne ↦ column-past turn shelf c x y xs ys ne (each shelf)
    ] in
    let more = columns-prefix turn (suc c) xs ys rest in
    (more.0, ap (λ (z : Parcel). z ∷ ys) heads.0 ∙ ap (λ (l : List Parcel). x ∷ l) more.1)
