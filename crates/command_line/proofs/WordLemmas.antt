-- The words of a command.
use Rattle.std.proofs.Common.{◌≡◌, ◌<◌, ◌≤◌, ◌∷◌, List, [], length, get_or, map, refl, arith}

-- a list of one element is that element, and so are those of two and of four
pub one-element : {X Y : Type 0} (f : X → Y) (xs : List X) (d : X) → 1 ≤ length xs → length xs < 2 → map f xs ≡ f (get_or xs 0 d) ∷ []
one-element f [] d some few = absurd (omega arith)
one-element f (y ∷ []) d some few = refl
one-element f (y ∷ z ∷ xs) d some few = absurd (omega arith)

pub two-elements :
    {X Y : Type 0} (f : X → Y) (xs : List X) (d : X) → 2 ≤ length xs → length xs < 3
    → map f xs ≡ f (get_or xs 0 d) ∷ f (get_or xs 1 d) ∷ []
two-elements f [] d some few = absurd (omega arith)
two-elements f (x ∷ []) d some few = absurd (omega arith)
two-elements f (x ∷ y ∷ []) d some few = refl
two-elements f (x ∷ y ∷ z ∷ xs) d some few = absurd (omega arith)

pub four-elements :
    {X Y : Type 0} (f : X → Y) (xs : List X) (d : X) → 4 ≤ length xs → length xs < 5
    → map f xs ≡ f (get_or xs 0 d) ∷ f (get_or xs 1 d) ∷ f (get_or xs 2 d) ∷ f (get_or xs 3 d) ∷ []
four-elements f [] d some few = absurd (omega arith)
four-elements f (w ∷ []) d some few = absurd (omega arith)
four-elements f (w ∷ x ∷ []) d some few = absurd (omega arith)
four-elements f (w ∷ x ∷ y ∷ []) d some few = absurd (omega arith)
four-elements f (w ∷ x ∷ y ∷ z ∷ []) d some few = refl
four-elements f (w ∷ x ∷ y ∷ z ∷ v ∷ xs) d some few = absurd (omega arith)
