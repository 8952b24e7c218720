-- A new superblock: before its anchor is stored nobody has reserved blocks of it, and after it its blocks are in order.
use Rattle.std.proofs.Common.{ℕ, true, zero, suc, Option, ◌≡◌, ◌≢◌, ◌<◌, ◌≤◌, ◌+◌, ◌-◌, List, refl, arith, ap, sym, subst, ◌∙◌, ◌==◌, IsTrue, nat_lt, if◌then◌else◌, ne_eqb}
use Rattle.std.proofs.Common.{lt-ltb, ltb-true}
use Rattle.std.specs.List.{AllByRecursion}
use Rattle.std.proofs.lemmas.Bool.{cond-true, cond-false, cond_both}
use Rattle.std.proofs.lemmas.List.Elements.{recursion_from_All}
use Rattle.sound_state.proofs.Common.{Geometry, CLASSES, block_count_of, block_place, ActiveWord, link_of, WordName, word_count, word_name, occurs, new_credits, link_in}
use Rattle.sound_state.proofs.Common.{BlockPoint, Share, Point, State, holds_before_pop, holds_of, word_keeps, Lists, IsSo, recalls_of, IsSoundWith, words_sum, callers_sum}
use Rattle.sound_state.proofs.Common.{Superblock, IsChained, is_bound, free_chain, live_at, word_reserves, reserved_among, errand_reserves, reserved_of}
use Rattle.sound_state.proofs.Common.{block_count_of-least, block_count_of-most, new_anchor, chain_of, block_holds, active_keeps, AreMade, block_recalls, offered}
use Rattle.step_parts.specs.superblock.Anchors.{new_link}
use Rattle.errand_steps.specs.declared.point.Point.TheVariants as point
use Rattle.sound_state.proofs.beginnings.OpeningLists.{indexes, indexes-before, indexes-once, indexes-end, indexes-chained}
use Rattle.sound_state.proofs.shared.SumLemmas.{sum-none, term-sum, callers-none}
use Rattle.sound_state.proofs.shared.RecallTables.{bound-differs}

-- blocks of another descriptor that a caller has reserved are none of this one
before-other : (e d class : ℕ) (share : Share) → e ≢ d → reserved_among d (holds_before_pop e class share).credits ≡ 0
before-other e d class share differ = grind (arith, differ)

one-other : (e d blocks : ℕ) → e ≢ d → (if e == d then blocks else 0) + 0 ≡ 0
one-other e d blocks differ = grind (arith, ne_eqb e d differ)

-- a descriptor that isn't bound, of which no caller has reserved blocks
module _ (g : Geometry) (s : State) (l : Lists) (i d : ℕ) (free : IsTrue (is_bound g s l d) → ⊥) where
  unbound-block : (p : BlockPoint) → AllByRecursion (IsSo g s l i) (block_recalls p) → reserved_among d (block_holds p).credits ≡ 0
  unbound-block p so = grind (arith, so, bound-differs g s l d free, before-other, one-other)

  -- a caller at any point has reserved nothing of a descriptor that isn't bound
  unbound-point : (p : Point) → AllByRecursion (IsSo g s l i) (recalls_of p) → reserved_among d (holds_of p).credits ≡ 0
  unfolding holds_of recalls_of
  unbound-point (point.Block p o) so = unbound-block p so
  unbound-point p so = grind (arith)

-- an active word that doesn't hold a descriptor offers no blocks of it
held-none : (d : ℕ) (o : Option ActiveWord) → active_keeps d o ≡ 0 → offered d o ≡ 0
held-none d o none = grind (arith, none)

word-reserves-none : (d : ℕ) (n : WordName) (w : ℕ) → word_keeps d n w ≡ 0 → word_reserves d n w ≡ 0
word-reserves-none d n w none = grind (arith, none, held-none)

-- a descriptor that isn't bound, and that no active word or slot holds, has no reserved blocks
pub unbound-reserves :
    (g : Geometry) (s : State) (l : Lists) (d : ℕ) → IsSoundWith g s l → (IsTrue (is_bound g s l d) → ⊥)
    → words_sum g (word_keeps d) s.word ≡ 0 → reserved_of g s d ≡ 0
unfolding words_sum
unbound-reserves g s l d old free none =
    let words : words_sum g (word_reserves d) s.word ≡ 0 =
    sum-none (word_count g) (λ k. word_reserves d (word_name g k) (s.word (word_name g k)))
    (λ k lt.
    let term = term-sum (word_count g) (λ k. word_keeps d (word_name g k) (s.word (word_name g k))) k lt in
    word-reserves-none d (word_name g k) (s.word (word_name g k)) (omega (arith, term, none))) in
    let callers : callers_sum g (errand_reserves d) s.errand ≡ 0 =
    callers-none g (errand_reserves d) s.errand
    (λ i has.
    unbound-point g s l i d free (s.errand i).point
    (recursion_from_All (IsSo g s l i) (recalls_of (s.errand i).point) (old.remembered.so i has))) in
    omega (arith, words, callers)

-- a new superblock, of which the first block is held back
abbrev pub new_superblock : State → ℕ → ℕ → Superblock
new_superblock s f c = record {
  anchor = new_anchor c;
  reserved = new_credits c + 1;
  waiting = 1;
  next = link_in s.word f c;
  live = λ i. live_at s (block_place f c i);
  size = block_count_of c;
}

-- the links of a new superblock are as they were made
made-link : (s : State) (f c i : ℕ) → AreMade s f c (block_count_of c) → i < block_count_of c → link_in s.word f c i ≡ new_link c i
made-link s f c i made_all has =
    ap link_of (made_all i has)
    ∙ cond_both (nat_lt (i + 1) (block_count_of c)) (i + 1) 0 (λ w. link_of w ≡ w)
    (λ e. omega (arith, block_count_of-most c, ltb-true (i + 1) (block_count_of c) e)) (λ e. refl)

made-next : (s : State) (f c i : ℕ) → AreMade s f c (block_count_of c) → suc i < block_count_of c → link_in s.word f c i ≡ suc i
made-next s f c i made_all has =
    let more : nat_lt (i + 1) (block_count_of c) ≡ true = lt-ltb (i + 1) (block_count_of c) (omega (arith, has)) in
    omega (arith, made-link s f c i made_all (omega arith), cond-true (nat_lt (i + 1) (block_count_of c)) (i + 1) 0 more)

made-within : (s : State) (f c i : ℕ) → AreMade s f c (block_count_of c) → i < block_count_of c → link_in s.word f c i < block_count_of c
made-within s f c i made_all has =
    subst (λ w. w < block_count_of c) (sym (made-link s f c i made_all has))
    (cond_both (nat_lt (i + 1) (block_count_of c)) (i + 1) 0 (λ w. w < block_count_of c)
    (λ e. ltb-true (i + 1) (block_count_of c) e) (λ e. omega (arith, has)))

-- the credits of a new superblock and one more are its blocks but one at most
new-fit : (c : ℕ) → c < CLASSES → new_credits c + 1 ≤ block_count_of c - 1
new-fit c has = grind (arith, block_count_of-least c has)

-- the blocks of a new superblock but its first one are free, one behind the other
new-chain :
    (s : State) (f c : ℕ) → c < CLASSES → AreMade s f c (block_count_of c) → free_chain (new_superblock s f c) ≡ indexes 1 (block_count_of c - 1)
new-chain s f c has made_all =
    let all : (block_count_of c - 1) - (new_credits c + 1) + (new_credits c + 1) ≡ block_count_of c - 1 = omega (arith, new-fit c has) in
    ap (λ k. chain_of (link_in s.word f c) k 1) all
    ∙ indexes-chained (link_in s.word f c) 1 (block_count_of c - 1) (block_count_of c)
    (omega (arith, block_count_of-least c has)) (λ i lt. made-next s f c i made_all lt)

-- each block of a new superblock is free, or held back
new-once : (count i live : ℕ) (xs : List ℕ) → xs ≡ indexes 1 (count - 1) → i < count → live ≡ 0 → occurs i xs + live + (if i == 0 then 1 else 0) ≡ 1
new-once count zero live xs chain lt none = omega (arith, ap (occurs 0) chain, indexes-before 1 (count - 1) 0 (omega arith), none)
new-once count (suc i) live xs chain lt none =
    let behind : ◌≡◌ {A = ℕ} (if suc i == 0 then 1 else 0) 0 =
    cond-false {A = ℕ} (suc i == 0) 1 0 (ne_eqb (suc i) 0 (λ is. let bad : ⊥ = omega (arith, is) in bad)) in
    omega (arith, ap (occurs (suc i)) chain, indexes-once 1 (count - 1) (suc i) (omega arith) (omega (arith, lt)), none, behind)

-- the blocks of a new superblock are in order
pub new-chained :
    (s : State) (f c : ℕ) → c < CLASSES → AreMade s f c (block_count_of c)
    → ((i : ℕ) → i < block_count_of c → live_at s (block_place f c i) ≡ 0) → IsChained (new_superblock s f c)
new-chained s f c has made_all unlive =
    let count = block_count_of c in
    let two = block_count_of-least c has in
    let chain = new-chain s f c has made_all in
    let within : (i : ℕ) → 0 < occurs i (free_chain (new_superblock s f c)) → i < count =
    λ i on. omega (arith, two, indexes-end 1 (count - 1) i (subst (λ xs. 0 < occurs i xs) chain on)) in
    record {
      avail = omega (arith, two);
      within = within;
      links = λ i on. made-within s f c i made_all (within i on);
      once = λ i lt. new-once count i (live_at s (block_place f c i)) (free_chain (new_superblock s f c)) chain lt (unlive i lt);
      some = omega (arith, two, new-fit c has);
    }
