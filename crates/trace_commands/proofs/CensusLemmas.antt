-- The lines of classes, one more at a time.
use Rattle.std.proofs.Common.{ℕ, zero, suc, ◌≡◌, ◌+◌, List, ◌++◌, append-nil, append_assoc, add-zero, sym, ap, ◌∙◌, arith}
use Rattle.std.specs.List.{flat_map, range_with_len}

range-more : (f : ℕ → List ℕ) (a n : ℕ) → flat_map f (range_with_len a (suc n)) ≡ flat_map f (range_with_len a n) ++ f (a + n)
range-more f a zero = append-nil (f a) ∙ ap f (sym (add-zero a))
range-more f a (suc n) =
    let next : (a + 1) + n ≡ a + suc n = omega arith in
    ap (λ (rest : List ℕ). f a ++ rest) (range-more f (a + 1) n ∙ ap (λ k. flat_map f (range_with_len (a + 1) n) ++ f k) next)
    ∙ sym (append_assoc (f a) (flat_map f (range_with_len (a + 1) n)) (f (a + suc n)))

-- lines of numbers in a row, with one more of the next number
pub lines-more :
    (f : ℕ → List ℕ) (n : ℕ) (so_far line all : List ℕ) → so_far ≡ flat_map f (range_with_len 0 n) → line ≡ f n → all ≡ so_far ++ line
    → all ≡ flat_map f (range_with_len 0 (n + 1))
lines-more f n so_far line all before is joined =
    let next : n + 1 ≡ suc n = omega arith in
    let last : 0 + n ≡ n = omega arith in
    joined
    ∙ ap (λ (l : List ℕ). l ++ line) before
    ∙ ap (λ (l : List ℕ). flat_map f (range_with_len 0 n) ++ l) (is ∙ ap f (sym last))
    ∙ sym (range-more f 0 n)
    ∙ ap (λ k. flat_map f (range_with_len 0 k)) (sym next)
