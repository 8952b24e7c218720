-- What the reads of a source gave, and what is left of it.
use Rattle.std.proofs.Common.{ℕ, ◌≡◌, List, [], ◌++◌, Option, Some, None, IfSome, refl, sym, ◌∙◌, ap}
use Rattle.std.proofs.lemmas.List.{append-nil}
use Rattle.std.specs.Io.KnownBytes.{Consumes}
use Rattle.edge_io.specs.Source.{IsZeroAtEnd}

-- after a read that answered 0, the reads before it gave all that was told
pub IfSome-from_zero : (first last end : Option (List ℕ)) (given : List ℕ) → Consumes first last given → Consumes last end [] → IsZeroAtEnd last 0 → IfSome first (λ xs. (xs ≡ given) × (end ≡ Some []))
IfSome-from_zero None last end given before after zero = tt
IfSome-from_zero (Some xs) None end given before after zero = absurd before
IfSome-from_zero (Some xs) (Some ys) None given before after zero = absurd after
IfSome-from_zero (Some xs) (Some ys) (Some zs) given before after zero =
    let none_left : ys ≡ [] = zero.0 refl in
    (before ∙ ap (λ rest. given ++ rest) none_left ∙ append-nil given, ap Some (sym after ∙ none_left))
