-- A stack as a list.
use Rattle.std.proofs.Common.{ℕ, ◌≡◌, ◌≢◌, ◌↔◌, ◌+◌, ◌-◌, ◌^◌, ◌<◌, ◌≤◌, List, [], ◌∷◌, length, arith, ap, refl, sym, subst, inl, inr}
use Rattle.std.proofs.lemmas.Bool.{cases_eq}
use Rattle.std.proofs.lemmas.Bool.Decides.{nat_tests}
use Rattle.packed_words.specs.declared.widths.TheConstants.{TOP_BITS}
use Rattle.packed_words.specs.Head.{HeadFields}
use Rattle.word_table.specs.declared.name.WordName.{WordName}
use Rattle.word_table.specs.Words.{Writes}
use Rattle.word_table.specs.Occurs.{occurs}
use Rattle.step_parts.specs.declared.stack.point.Pile.{Pile}
use Rattle.step_parts.specs.declared.stack.point.Pile.TheVariants.{Frames, Partials}
use Rattle.step_parts.specs.stack.Piles.{next_name, popped_head, pushed_head}
use Rattle.step_parts.specs.stack.Stacks.{Stacked, next_in}

-- a list that begins with an index has it once more than the rest
occurs-here : (i : ℕ) (xs : List ℕ) → occurs i (i ∷ xs) ≡ 1 + occurs i xs
occurs-here i xs = grind (arith, nat_tests)

-- a list that begins with another index has an index as often as the rest
occurs-other : (i x : ℕ) (xs : List ℕ) → x ≢ i → occurs i (x ∷ xs) ≡ occurs i xs
occurs-other i x xs differ = grind (arith, nat_tests)

-- an index of the rest is one of the list
occurs-more : (i x : ℕ) (xs : List ℕ) → occurs i xs ≤ occurs i (x ∷ xs)
occurs-more i x xs = omega arith

-- an empty list is a stack whose top is 0
empty-top : (next : ℕ → ℕ) (top : ℕ) (xs : List ℕ) → Stacked next top xs → xs ≡ [] → top ≡ 0
empty-top next top [] stack none = stack
empty-top next top (x ∷ xs) stack none = absurd (cc)

top-empty : (next : ℕ → ℕ) (top : ℕ) (xs : List ℕ) → Stacked next top xs → top ≡ 0 → xs ≡ []
top-empty next top [] stack none = refl
top-empty next top (x ∷ xs) stack none = absurd (omega (arith, stack.0))

pub stacked-empty : (next : ℕ → ℕ) (top : ℕ) (xs : List ℕ) → Stacked next top xs → (top ≡ 0) ↔ (xs ≡ [])
stacked-empty next top xs stack = (top-empty next top xs stack, empty-top next top xs stack)

-- a stack is one list
pub stacked-one : (next : ℕ → ℕ) (top : ℕ) (xs ys : List ℕ) → Stacked next top xs → Stacked next top ys → xs ≡ ys
stacked-one next top [] [] first second = refl
stacked-one next top [] (y ∷ ys) first second = absurd (omega (arith, first, second.0))
stacked-one next top (x ∷ xs) [] first second = absurd (omega (arith, first.0, second))
stacked-one next top (x ∷ xs) (y ∷ ys) first second =
    let same : y ≡ x = omega (arith, first.0, second.0) in
    let rest : Stacked next (next x) ys = subst (λ (z : ℕ). Stacked next (next z) ys) same second.1 in
    rw same (ap (λ zs. x ∷ zs) (stacked-one next (next x) xs ys first.1 rest))

-- a stack goes on, from an index that is on it, as a stack that is no longer
record IsRest (next : ℕ → ℕ) (i : ℕ) (xs ys : List ℕ) : Type 0 where
  stack : Stacked next (i + 1) ys
  short : length ys ≤ length xs

stacked-rest :
    (next : ℕ → ℕ) (i top : ℕ) (xs : List ℕ) → Stacked next top xs → 0 < occurs i xs → (ys : List ℕ) × IsRest next i xs ys
stacked-rest next i top [] stack on = absurd (omega arith)
stacked-rest next i top (x ∷ xs) stack on =
    elim (cases_eq x i) [
      | inl same ↦ (x ∷ xs, record { stack = (ap (λ n. n + 1) (sym same), stack.1); short = omega arith })
      | inr differ ↦
          let rest : (ys : List ℕ) × IsRest next i xs ys = stacked-rest next i (next x) xs stack.1 (omega (arith, occurs-other i x xs differ)) in
          (rest.0, record { stack = rest.1.stack; short = omega (arith, rest.1.short) })
    ]

-- the index on top of a stack is not among those below it
top-once : (next : ℕ → ℕ) (top x : ℕ) (xs : List ℕ) → Stacked next top (x ∷ xs) → occurs x xs ≡ 0
top-once next top x xs stack =
    elim (cases_eq (occurs x xs) 0) [
      | inl none ↦ none
      | inr some ↦
          let rest : (ys : List ℕ) × IsRest next x xs ys = stacked-rest next x (next x) xs stack.1 (omega arith) in
          let same : x ∷ xs ≡ rest.0 = stacked-one next (x + 1) (x ∷ xs) rest.0 (refl, stack.1) rest.1.stack in
          absurd (omega (arith, ap length same, rest.1.short))
    ]

-- a stack has each index once
pub stacked-once : (next : ℕ → ℕ) (top i : ℕ) (xs : List ℕ) → Stacked next top xs → occurs i xs ≤ 1
stacked-once next top i [] stack = omega arith
stacked-once next top i (x ∷ xs) stack =
    elim (cases_eq x i) [
      | inl same ↦ subst (λ (j : ℕ). occurs j (x ∷ xs) ≤ 1) same (omega (arith, occurs-here x xs, top-once next top x xs stack))
      | inr differ ↦ omega (arith, occurs-other i x xs differ, stacked-once next (next x) i xs stack.1)
    ]

-- the next words of the indexes that are on a stack decide it
stacked-same :
    (next next' : ℕ → ℕ) (top : ℕ) (xs : List ℕ) → ((j : ℕ) → 0 < occurs j xs → next' j ≡ next j) → Stacked next top xs
    → Stacked next' top xs
stacked-same next next' top [] same stack = stack
stacked-same next next' top (x ∷ xs) same stack =
    let here : next' x ≡ next x = same x (omega (arith, occurs-here x xs)) in
    (stack.0, rw here (stacked-same next next' (next x) xs (λ j on. same j (omega (arith, occurs-more j x xs))) stack.1))

-- a pop takes the first index off
pub stacked-first : (next : ℕ → ℕ) (h : HeadFields) (x : ℕ) (xs : List ℕ) → Stacked next h.top (x ∷ xs) → h.top - 1 ≡ x
stacked-first next h x xs stack = omega (arith, stack.0)

pub stacked-popped :
    (next : ℕ → ℕ) (h : HeadFields) (x : ℕ) (xs : List ℕ) → Stacked next h.top (x ∷ xs)
    → Stacked next (popped_head h (next x)).top xs
stacked-popped next h x xs stack = stack.1

-- an index that is on a list is none that is not
on-apart : (i j : ℕ) (xs : List ℕ) → occurs i xs ≡ 0 → 0 < occurs j xs → j ≢ i
on-apart i j xs off on same =
    let none : occurs j xs ≡ 0 = subst (λ (m : ℕ). occurs m xs ≡ 0) (sym same) off in omega arith

-- two indexes of a stack have two next words
next_name-apart : (p : Pile) (i j : ℕ) → j ≢ i → next_name p j ≢ next_name p i
next_name-apart Frames i j differ same = differ (cc)
next_name-apart Partials i j differ same = differ (cc)

-- a change of a word that is not the next word of an index on a stack leaves the stack
pub stacked-elsewhere :
    (words words' : WordName → ℕ) (name : WordName) (new : ℕ) (p : Pile) (top : ℕ) (xs : List ℕ) → Writes words name new words'
    → ((j : ℕ) → 0 < occurs j xs → next_name p j ≢ name) → Stacked (next_in words p) top xs → Stacked (next_in words' p) top xs
stacked-elsewhere words words' name new p top xs writes apart stack =
    stacked-same (next_in words p) (next_in words' p) top xs (λ j on. writes.elsewhere (next_name p j) (apart j on)) stack

-- a change of the next word of an index that is not on a stack leaves the stack
pub stacked-off :
    (words words' : WordName → ℕ) (new : ℕ) (p : Pile) (top i : ℕ) (xs : List ℕ) → Writes words (next_name p i) new words'
    → occurs i xs ≡ 0 → Stacked (next_in words p) top xs → Stacked (next_in words' p) top xs
stacked-off words words' new p top i xs writes off stack =
    stacked-elsewhere words words' (next_name p i) new p top xs writes
    (λ j on. next_name-apart p i j (on-apart i j xs off on)) stack

-- a push puts an index in front that is not on the stack
pub stacked-pushed :
    (words words' : WordName → ℕ) (p : Pile) (h : HeadFields) (i : ℕ) (xs : List ℕ) → i + 1 < 2 ^ TOP_BITS
    → Writes words (next_name p i) h.top words' → occurs i xs ≡ 0 → Stacked (next_in words p) h.top xs
    → Stacked (next_in words' p) (pushed_head h i).top (i ∷ xs)
stacked-pushed words words' p h i xs fits writes off stack =
    (omega arith, rw writes.here (stacked-off words words' h.top p h.top i xs writes off stack))
