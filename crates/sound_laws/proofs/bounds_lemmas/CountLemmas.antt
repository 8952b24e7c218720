-- How wins are counted: in two lists, behind a note, and with one more.
use Rattle.std.proofs.Common.{ℕ, Bool, true, false, cond, Option, Some, None, ◌≡◌, ◌≤◌, ◌+◌, List, [], ◌∷◌, ◌++◌, length, take, drop, arith, ap, ◌∙◌, count_by}
use Rattle.std.proofs.Common.{option_to_list}
use Rattle.std.proofs.lemmas.List.{take-append-le, drop-append-le}
use Rattle.std.proofs.lemmas.List.Sums.{sum_by-append, sum_by-take-drop, sum_by-le-sum_by, sum_by_push}
use Rattle.sound_state.proofs.Common.{sum_below, one_if}
use Rattle.sound_laws.specs.bounds.Wins.{Win}
use Rattle.sound_state.proofs.shared.SumLemmas.{sum-plus, sum-same}

-- one win counts once where it passes the test, and else not
pub count-one : {X : Type 0} (p : X → Bool) (x : X) → p x ≡ true → count_by p (option_to_list (Some x)) ≡ 1
count-one p x is = rw is (omega arith)

pub count-other : {X : Type 0} (p : X → Bool) (x : X) → p x ≡ false → count_by p (option_to_list (Some x)) ≡ 0
count-other p x is = rw is (omega arith)

-- the wins of two lists are counted together, and those behind a number of the first one's
pub count-append : {X : Type 0} (p : X → Bool) (xs ys : List X) → count_by p (xs ++ ys) ≡ count_by p xs + count_by p ys
count-append p xs ys = sum_by-append (λ x. cond (p x) 1 0) xs ys

pub count-behind :
    {X : Type 0} (p : X → Bool) (xs ys : List X) (n : ℕ) → n ≤ length xs → count_by p (drop n (xs ++ ys)) ≡ count_by p (drop n xs) + count_by p ys
count-behind p xs ys n within = ap (count_by p) (drop-append-le n xs ys within) ∙ count-append p (drop n xs) ys

-- what a list counts for each caller is what its first element and the others count
pub counts-first :
    {X : Type 0} (n : ℕ) (p : ℕ → X → Bool) (x : X) (xs : List X)
    → sum_below n (λ caller. count_by (p caller) (x ∷ xs)) ≡ sum_below n (λ caller. count_by (p caller) (x ∷ [])) + sum_below n (λ caller. count_by (p caller) xs)
counts-first n p x xs =
    let one = λ (caller : ℕ). count_by (p caller) (x ∷ []) in
    let rest = λ (caller : ℕ). count_by (p caller) xs in
    omega (
      arith,
      sum-same n (λ caller. one caller + rest caller) (λ caller. count_by (p caller) (x ∷ xs)) (λ caller lt. count-append (p caller) (x ∷ []) xs),
      sum-plus n one rest,
    )

-- the first elements of a list and the others count together what it does
pub count-parts : {X : Type 0} (p : X → Bool) (n : ℕ) (xs : List X) → count_by p (take n xs) + count_by p (drop n xs) ≡ count_by p xs
count-parts p n xs = sum_by-take-drop (λ x. cond (p x) 1 0) xs n

-- a weaker test counts at least as many
pub count-most : {X : Type 0} (p q : X → Bool) (xs : List X) → ((x : X) → one_if (p x) ≤ one_if (q x)) → count_by p xs ≤ count_by q xs
count-most p q xs most = sum_by-le-sum_by (λ x. cond (p x) 1 0) (λ x. cond (q x) 1 0) xs most

-- 1 where there is a win that passes the test
abbrev pub counted : (Win → Bool) → Option Win → ℕ
counted p None = 0
counted p (Some x) = one_if (p x)

-- the wins of a kind in a list with one more win
pub count-win : (p : Win → Bool) (list : List Win) (o : Option Win) → count_by p (list ++ option_to_list o) ≡ count_by p list + counted p o
count-win p list None = omega (arith, count-append p list [])
count-win p list (Some x) = sum_by_push (λ x. cond (p x) 1 0) list x

-- the wins before a number within the list stay with one more win, and those after it grow by the win
pub take-win : (n : ℕ) (list : List Win) (o : Option Win) → n ≤ length list → take n (list ++ option_to_list o) ≡ take n list
take-win n list o most = take-append-le n list (option_to_list o) most

pub drop-win :
    (p : Win → Bool) (n : ℕ) (list : List Win) (o : Option Win) → n ≤ length list
    → count_by p (drop n (list ++ option_to_list o)) ≡ count_by p (drop n list) + counted p o
drop-win p n list o most = ap (count_by p) (drop-append-le n list (option_to_list o) most) ∙ count-win p (drop n list) o
