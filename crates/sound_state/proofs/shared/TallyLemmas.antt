-- The blocks of a superblock, counted.
use Rattle.std.proofs.Common.{ℕ, ◌≡◌, ◌<◌, ◌≤◌, ◌+◌, List, [], ◌∷◌, length, refl, arith, sym, ◌∙◌, ◌==◌, if◌then◌else◌, eq-eqb, ne_eqb}
use Rattle.std.proofs.lemmas.Bool.{cond-true, cond-false}
use Rattle.sound_state.proofs.Common.{occurs, sum_below, Superblock, IsChained, free_chain, occurs-here, occurs-more, held_back}
use Rattle.step_parts.proofs.superblock_lemmas.ChainLemmas.{chain_of-length}
use Rattle.sound_state.proofs.shared.SumLemmas.{sum-same, sum-none, sum-one, sum-ones, sum-plus}

-- numbers that are all below a bound occur as often, counted by number, as their list is long
pub occurs-all : (n : ℕ) (xs : List ℕ) → ((j : ℕ) → 0 < occurs j xs → j < n) → sum_below n (λ j. occurs j xs) ≡ length xs
occurs-all n [] within = sum-none n (λ j. 0) (λ j lt. refl)
occurs-all n (x ∷ xs) within =
    let has : x < n = within x (omega (arith, occurs-here x xs)) in
    let one : sum_below n (λ j. if x == j then 1 else 0) ≡ (if x == x then 1 else 0) =
    sum-one n (λ j. if x == j then 1 else 0) x has (λ j lt ne. cond-false {A = ℕ} (x == j) 1 0 (ne_eqb x j (λ same. ne (sym same)))) in
    omega (
      arith,
      one,
      cond-true {A = ℕ} (x == x) 1 0 (eq-eqb x x refl),
      sum-plus n (λ j. if x == j then 1 else 0) (λ j. occurs j xs),
      occurs-all n xs (λ j on. within j (omega (arith, on, occurs-more j x xs))),
    )

-- a superblock of which block 0 is held back waits at one caller, and that block is neither free nor live
pub held-back-once :
    (b : Superblock) → IsChained b → 1 ≤ b.waiting → (occurs 0 (free_chain b) ≡ 0) × (b.live 0 ≡ 0) × (b.waiting ≡ 1)
held-back-once b chained waits = grind (arith, chained, waits)

-- the free blocks of a superblock, its live ones and the one that is held back are all its blocks
pub tally : (b : Superblock) → IsChained b → b.anchor.count + b.reserved + sum_below b.size b.live + b.waiting ≡ b.size
tally b chained =
    let free : sum_below b.size (λ j. occurs j (free_chain b)) ≡ b.anchor.count + b.reserved =
    occurs-all b.size (free_chain b) chained.within ∙ chain_of-length b.next (b.anchor.count + b.reserved) b.anchor.avail in
    let held : sum_below b.size (held_back b) ≡ b.waiting =
    sum-one b.size (held_back b) 0 (omega (arith, chained.avail)) (λ j lt ne. cond-false {A = ℕ} (j == 0) b.waiting 0 (ne_eqb j 0 ne)) in
    let each : sum_below b.size (λ j. occurs j (free_chain b) + b.live j + held_back b j) ≡ sum_below b.size (λ j. 1) =
    sum-same b.size (λ j. 1) (λ j. occurs j (free_chain b) + b.live j + held_back b j) (λ j lt. chained.once j lt) in
    omega (
      arith,
      free,
      held,
      each,
      sum-ones b.size,
      sum-plus b.size (λ j. occurs j (free_chain b) + b.live j) (held_back b),
      sum-plus b.size (λ j. occurs j (free_chain b)) b.live,
    )
