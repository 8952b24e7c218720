-- The chain of a page's pieces that are home, and how many these are.
use Rattle.std.proofs.Common.{ℕ, zero, suc, ◌≡◌, ◌≢◌, ◌+◌, ◌-◌, ◌<◌, ◌≤◌, List, [], ◌∷◌, length, refl, sym, ap, subst, ◌∙◌, arith, inl, inr, ◌⊎◌, slice_index_or, get_or-set_same, get_or-set_other}
use Rattle.std.specs.Prelude.{slice_set}
use Rattle.std.proofs.lemmas.Bool.{cases_eq, cases_lt}
use Rattle.std.proofs.lemmas.Grind.{merely}
use Rattle.std.proofs.lemmas.List.{get_or_past, set-set, set-get_or}
use Rattle.std.proofs.Props.{props}
use mathlib.Core.Logic.{∥∥₁_elim, ∥∥₁_map}
use Rattle.plain_words.specs.declared.plain.PlainWords.{PlainWords}
use Rattle.memory_cache.specs.declared.page.Slot.{Slot}
use Rattle.memory_cache.specs.declared.page.Slot.TheVariants.{Home, Out}
use Rattle.memory_cache.specs.Chains.{IsChain}
use Rattle.memory_cache.proofs.PageLemmas.{home-in}

-- a slot whose piece is home has its words
abbrev HasWords : Slot → Type 0
HasWords slot = (words : PlainWords) × (next : ℕ) × (slot ≡ Home words next)

has-words : (slot : Slot) → slot ≢ Out → HasWords slot
has-words Out home = absurd (home refl)
has-words (Home words next) home = (words, next, refl)

out-home : (slot : Slot) → (slot ≡ Out) ⊎ (slot ≢ Out)
out-home Out = inl refl
out-home (Home words next) = inr (home-in words next)

out-or : (slots : List Slot) (n : ℕ) → (slice_index_or slots n Out ≡ Out) ⊎ (slice_index_or slots n Out ≢ Out)
out-or slots n = out-home (slice_index_or slots n Out)

-- how many pieces are home
abbrev pub homes : List Slot → ℕ
homes [] = 0
homes (Out ∷ slots) = homes slots
homes (Home words next ∷ slots) = homes slots + 1

homes-none : (slots : List Slot) → ((n : ℕ) → slice_index_or slots n Out ≡ Out) → homes slots ≡ 0
homes-none [] none = refl
homes-none (Out ∷ slots) none = homes-none slots (λ n. none (suc n))
homes-none (Home words next ∷ slots) none = absurd (home-in words next (none 0))

-- one that goes out
homes-less :
    (slots : List Slot) (n : ℕ) (words : PlainWords) (next : ℕ) → slice_index_or slots n Out ≡ Home words next
    → homes slots ≡ homes (slice_set slots n Out) + 1
homes-less [] n words next is = absurd (home-in words next (sym is))
homes-less (Out ∷ slots) zero words next is = absurd (home-in words next (sym is))
homes-less (Home other then ∷ slots) zero words next is = refl
homes-less (Out ∷ slots) (suc n) words next is = homes-less slots n words next is
homes-less (Home other then ∷ slots) (suc n) words next is = ap (λ k. k + 1) (homes-less slots n words next is)

homes-most : (slots : List Slot) → homes slots ≤ length slots
homes-most [] = omega arith
homes-most (Out ∷ slots) = let most = homes-most slots in omega (arith, most)
homes-most (Home words next ∷ slots) = let most = homes-most slots in omega (arith, most)

-- where they are all
homes-all : (slots : List Slot) → homes slots ≡ length slots → (n : ℕ) → n < length slots → slice_index_or slots n Out ≢ Out
homes-all [] all n within = absurd (omega (arith, within))
homes-all (Out ∷ slots) all n within = let most = homes-most slots in absurd (omega (arith, all, most))
homes-all (Home words next ∷ slots) all zero within = home-in words next
homes-all (Home words next ∷ slots) all (suc n) within = homes-all slots (omega (arith, all)) n (omega (arith, within))

-- and where not
homes-some :
    (slots : List Slot) → homes slots ≢ length slots → (n : ℕ) × (n < length slots) × (slice_index_or slots n Out ≡ Out)
homes-some [] some = absurd (some refl)
homes-some (Out ∷ slots) some = (0, omega arith, refl)
homes-some (Home words next ∷ slots) some =
    let one = homes-some slots (λ same. some (omega (arith, same))) in (suc one.0, omega (arith, one.1), one.2)

-- two that are home
homes-two :
    (slots : List Slot) (m n : ℕ) → m ≢ n → slice_index_or slots m Out ≢ Out → slice_index_or slots n Out ≢ Out → 1 < homes slots
homes-two slots m n ne one other =
    let w = has-words (slice_index_or slots m Out) one in
    let v = has-words (slice_index_or slots n Out) other in
    let less = slice_set slots m Out in
    let stays : slice_index_or less n Out ≡ Home v.0 v.1 = get_or-set_other slots m n Out Out (λ same. ne (sym same)) ∙ v.2 in
    let first = homes-less slots m w.0 w.1 w.2 in
    let second = homes-less less n v.0 v.1 stays in
    omega (arith, first, second)

-- a chain names as many as are home
pub chain-counts : (left from : ℕ) (slots : List Slot) → IsChain left from slots → homes slots ≡ left
chain-counts zero from slots is = homes-none slots is
chain-counts (suc left) from slots is =
    let less = homes-less slots from is.0 is.1 is.2 in
    let rest = chain-counts left is.1 (slice_set slots from Out) is.3 in
    omega (arith, less, rest)

chain-first : (left from : ℕ) (slots : List Slot) → 0 < left → IsChain left from slots → slice_index_or slots from Out ≢ Out
chain-first zero from slots some is = absurd (omega (arith, some))
chain-first (suc left) from slots some is = λ out. home-in is.0 is.1 (sym is.2 ∙ out)

chain-none : (left from : ℕ) (slots : List Slot) → left ≡ 0 → IsChain left from slots → (n : ℕ) → slice_index_or slots n Out ≡ Out
chain-none zero from slots none is n = is n
chain-none (suc left) from slots none is n = absurd (omega (arith, none))

-- its first piece goes out
chain-popped :
    (left from : ℕ) (slots : List Slot) (words : PlainWords) (next : ℕ) → slice_index_or slots from Out ≡ Home words next → IsChain left from slots
    → IsChain (left - 1) next (slice_set slots from Out)
chain-popped zero from slots words next home is = absurd (home-in words next (sym home ∙ is from))
chain-popped (suc left) from slots words next home is =
    let same : is.1 ≡ next = cc in
    let less : suc left - 1 ≡ left = omega arith in
    subst (λ k. IsChain k next (slice_set slots from Out)) (sym less)
    (subst (λ k. IsChain left k (slice_set slots from Out)) same is.3)

-- another one comes home, and is the first
chain-pushed :
    (left head : ℕ) (slots : List Slot) (number : ℕ) (words : PlainWords) → number < length slots → slice_index_or slots number Out ≡ Out
    → IsChain left head slots → IsChain (suc left) number (slice_set slots number (Home words head))
chain-pushed left head slots number words within out is =
    let slot : Slot = Home words head in
    let as_was : slice_set (slice_set slots number slot) number Out ≡ slots =
    set-set slots number slot Out ∙ ap (slice_set slots number) (sym out) ∙ set-get_or slots number Out in (
      words,
      head,
      get_or-set_same slots number slot Out within,
      subst (IsChain left head) (sym as_was) is,
    )

within-slots : (slots : List Slot) (n : ℕ) (words : PlainWords) (next : ℕ) → slice_index_or slots n Out ≡ Home words next → n < length slots
within-slots slots n words next is =
    elim (cases_lt n (length slots)) [
      | inl within ↦ within
      | inr past ↦ absurd (home-in words next (sym is ∙ get_or_past slots n Out past))
    ]

pub home-within : (slots : List Slot) (n : ℕ) → slice_index_or slots n Out ≢ Out → n < length slots
home-within slots n home = let w = has-words (slice_index_or slots n Out) home in within-slots slots n w.0 w.1 w.2

-- each piece from one on up to another names the one behind it, and no other is home
pub chain-up :
    (left from : ℕ) (slots : List Slot)
    → ((n : ℕ) → from ≤ n → n < from + left → (words : PlainWords) × (slice_index_or slots n Out ≡ Home words (n + 1)))
    → ((n : ℕ) → (n < from) ⊎ (from + left ≤ n) → slice_index_or slots n Out ≡ Out) → IsChain left from slots
chain-up zero from slots homes outs = λ n.
    elim (cases_lt n from) [
      | inl below ↦ outs n (inl below)
      | inr above ↦ outs n (inr (omega (arith, above)))
    ]
chain-up (suc left) from slots homes outs =
    let one = homes from (omega arith) (omega arith) in
    let less = slice_set slots from Out in (
      one.0,
      from + 1,
      one.1,
      chain-up left (from + 1) less
          (λ n above below.
          let same : slice_index_or less n Out ≡ slice_index_or slots n Out = get_or-set_other slots from n Out Out (λ is. omega (arith, above, is)) in
          let it = homes n (omega (arith, above)) (omega (arith, below)) in
          (it.0, same ∙ it.1))
          (λ n away. elim (cases_eq n from) [
            | inl is ↦ ap (λ k. slice_index_or less k Out) is ∙ get_or-set_same slots from Out Out (within-slots slots from one.0 (from + 1) one.1)
            | inr ne ↦
                get_or-set_other slots from n Out Out ne
                ∙ outs n (elim away [
                  | inl below ↦ inl (omega (arith, below, ne))
                  | inr above ↦ inr (omega (arith, above))
                ])
          ]),
    )

-- each piece of a page that is cut names the one behind it
pub chain-all :
    (count : ℕ) (slots : List Slot) → length slots ≡ count
    → ((n : ℕ) → n < count → (words : PlainWords) × (slice_index_or slots n Out ≡ Home words (n + 1))) → ∥ IsChain count 0 slots ∥₁
chain-all count slots long next =
    merely
    (chain-up count 0 slots (λ n above below. next n (omega (arith, below)))
    (λ n away. elim away [
      | inl below ↦ absurd (omega (arith, below))
      | inr past ↦ get_or_past slots n Out (omega (arith, past, long))
    ]))

-- the same, where there is a chain, whichever it is
module _ (home head : ℕ) (slots : List Slot) (is : ∥ IsChain home head slots ∥₁) where
  pub counted : homes slots ≡ home
  counted = ∥∥₁_elim is (hlevel props) (chain-counts home head slots)

  pub few-home : home ≤ length slots
  few-home = let most = homes-most slots in omega (arith, most, counted)

  pub first-home : 0 < home → slice_index_or slots head Out ≢ Out
  first-home some = ∥∥₁_elim is (hlevel) (chain-first home head slots some)

  pub none-home : home ≡ 0 → (n : ℕ) → slice_index_or slots n Out ≡ Out
  none-home none n =
      elim (out-or slots n) [
        | inl out ↦ out
        | inr some ↦ absurd (∥∥₁_elim is (hlevel) (λ chain. some (chain-none home head slots none chain n)))
      ]

  pub some-home : slice_index_or slots head Out ≢ Out → 0 < home
  some-home first =
      elim (cases_lt 0 home) [
        | inl some ↦ some
        | inr none ↦ absurd (first (none-home (omega (arith, none)) head))
      ]

  pub two-home : (m n : ℕ) → m ≢ n → slice_index_or slots m Out ≢ Out → slice_index_or slots n Out ≢ Out → 1 < home
  two-home m n ne one other = let two = homes-two slots m n ne one other in omega (arith, two, counted)

  pub all-home : home ≡ length slots → (n : ℕ) → n < length slots → slice_index_or slots n Out ≢ Out
  all-home all = homes-all slots (counted ∙ all)

  pub one-out : home ≢ length slots → (n : ℕ) × (n < length slots) × (slice_index_or slots n Out ≡ Out)
  one-out some = homes-some slots (λ all. some (sym counted ∙ all))

  pub popped :
      (words : PlainWords) (next : ℕ) → slice_index_or slots head Out ≡ Home words next → ∥ IsChain (home - 1) next (slice_set slots head Out) ∥₁
  popped words next at = ∥∥₁_map is (chain-popped home head slots words next at)

  pub pushed :
      (number : ℕ) (words : PlainWords) → number < length slots → slice_index_or slots number Out ≡ Out
      → ∥ IsChain (home + 1) number (slice_set slots number (Home words head)) ∥₁
  pushed number words within out =
      let more : suc home ≡ home + 1 = omega arith in
      subst (λ k. ∥ IsChain k number (slice_set slots number (Home words head)) ∥₁) more (∥∥₁_map is (chain-pushed home head slots number words within out))

  -- where one is out
  pub fewer-home : (number : ℕ) → number < length slots → slice_index_or slots number Out ≡ Out → home < length slots
  fewer-home number within out =
      elim (cases_eq home (length slots)) [
        | inl all ↦ absurd (all-home all number within out)
        | inr ne ↦ let most = few-home in omega (arith, most, ne)
      ]
