-- A descriptor taken off a list, as a copy of the later ones over it.
use Rattle.std.proofs.Common.{ℕ, zero, suc, Bool, true, false, Some, None, ◌≡◌, ◌+◌, ◌-◌, ◌<◌, ◌≤◌, ◌∙◌, List, [], ◌∷◌, ◌++◌, length, take, drop, get_or, arith, ap, sym, refl}
use Rattle.std.specs.Prelude.{◌==◌, position, nat_lt, remove, Contains}
use Rattle.std.specs.List.{copy_within, position_or_len}
use Rattle.std.proofs.Math.Seq.{paste}
use Rattle.std.proofs.lemmas.Bool.{cond-true, cond-false, cond_both, ltb-false, eq-eqb, ne_eqb}
use Rattle.std.proofs.lemmas.Option.{none-some}
use Rattle.std.proofs.lemmas.List.{take-take, drop-take, length-drop, length-take-le}
use Rattle.std.proofs.lemmas.List.Edits.{take-paste}
use Rattle.std.proofs.lemmas.List.Quantifiers.{position-Some}
use Rattle.std.proofs.lemmas.List.Sums.{fails_before_first}
use Rattle.step_parts.specs.hazard.Retired.{without}

-- d is taken off at its first place
without-at :
    (d : ℕ) (xs : List ℕ) (i : ℕ) → i < length xs → (get_or xs i 0 == d) ≡ true
    → ((k : ℕ) → k < i → (get_or xs k 0 == d) ≡ false) → without d xs ≡ remove xs i
without-at d [] i within is before = let no : ⊥ = omega arith in absurd no
without-at d (x ∷ xs) zero within is before = cond-true (x == d) xs (x ∷ without d xs) is
without-at d (x ∷ xs) (suc i) within is before =
    cond-false (x == d) xs (x ∷ without d xs) (before 0 (omega arith))
    ∙ ap (λ l. x ∷ l) (without-at d xs i (omega arith) is (λ k lt. before (suc k) (omega arith)))

-- a list without d in it stays
without-none :
    (d : ℕ) (xs : List ℕ) → ((k : ℕ) → k < length xs → (get_or xs k 0 == d) ≡ false) → without d xs ≡ xs
without-none d [] other = refl
without-none d (x ∷ xs) other =
    cond-false (x == d) xs (x ∷ without d xs) (other 0 (omega arith))
    ∙ ap (λ l. x ∷ l) (without-none d xs (λ k lt. other (suc k) (omega arith)))

-- a search that finds no place ends at the end of the list
position-None : (p : ℕ → Bool) (xs : List ℕ) → position p xs ≡ None → length xs ≤ position_or_len p xs
position-None p xs =
    let n = position_or_len p xs in
    cond_both (nat_lt n (length xs)) (Some n) None (λ o. o ≡ None → length xs ≤ n)
    (λ e some. absurd (none-some n (sym some)))
    (λ e none. ltb-false n (length xs) e)

-- the elements after a place, copied one place down
taken-moved :
    (xs : List ℕ) (at n : ℕ) → at + 1 + n ≤ length xs
    → take (at + n) (paste xs at (drop (at + 1) xs) n) ≡ remove (take (at + 1 + n) xs) at
taken-moved xs at n within =
    let next : at + 1 ≡ suc at = omega arith in
    take-paste xs at (drop (at + 1) xs) n (omega arith) (omega (arith, length-drop (at + 1) xs))
    ∙ ap (λ l. l ++ take n (drop (at + 1) xs)) (sym (take-take at (at + 1 + n) xs (omega arith)))
    ∙ ap (λ l. take at (take (at + 1 + n) xs) ++ l) (sym (drop-take (at + 1) n xs))
    ∙ ap (λ m. take at (take (at + 1 + n) xs) ++ drop m (take (at + 1 + n) xs)) next

-- the first elements, with d taken off by a copy, are those without the first d in them
pub removed :
    (d : ℕ) (items moved : List ℕ) (n len at : ℕ) → n ≡ len → len ≤ length items
    → position (λ x. x == d) (take n items) ≡ Some at → moved ≡ copy_within items (at + 1) n at
    → take (len - 1) moved ≡ without d (take len items)
removed d items moved n len at same within found copied =
    let xs = take n items in
    let first = position-Some (λ x. x == d) xs at 0 found in
    let more = n - (at + 1) in
    let below : at < n = omega (arith, first.0, length-take-le n items (omega arith)) in
    let last : len - 1 ≡ at + more = omega arith in
    let all : at + 1 + more ≡ n = omega arith in
    ap (take (len - 1)) copied
    ∙ ap (λ m. take m (copy_within items (at + 1) n at)) last
    ∙ taken-moved items at more (omega arith)
    ∙ ap (λ m. remove (take m items) at) all
    ∙ sym (without-at d xs at first.0 first.1 first.2)
    ∙ ap (λ m. without d (take m items)) same

-- the first elements, where d is not among them, are those without d
pub unlisted :
    (d : ℕ) (items : List ℕ) (n len : ℕ) → n ≡ len → position (λ x. x == d) (take n items) ≡ None
    → take len items ≡ without d (take len items)
unlisted d items n len same found =
    let xs = take n items in
    let none = position-None (λ x. x == d) xs found in
    let stays : without d xs ≡ xs =
    without-none d xs (λ k lt. fails_before_first (λ x. x == d) xs k 0 (omega (arith, none))) in
    ap (λ m. take m items) (sym same) ∙ sym stays ∙ ap (λ m. without d (take m items)) same

-- an element of the rest is one of the list
pub later : (x : ℕ) (xs : List ℕ) (y : ℕ) → Contains xs y → Contains (x ∷ xs) y
later x xs y has = (suc has.0, omega (arith, has.1), has.2)

-- what stood before d and what stood after it are joined
pub without-append :
    (d : ℕ) (before after : List ℕ) → (Contains before d → ⊥) → without d (before ++ d ∷ after) ≡ before ++ after
without-append d [] after absent = cond-true (d == d) after (d ∷ without d after) (eq-eqb d d refl)
without-append d (x ∷ before) after absent =
    cond-false (x == d) (before ++ d ∷ after) (x ∷ without d (before ++ d ∷ after))
    (ne_eqb x d (λ e. absent (0, omega arith, e)))
    ∙ ap (λ l. x ∷ l) (without-append d before after (λ has. absent (later x before d has)))
