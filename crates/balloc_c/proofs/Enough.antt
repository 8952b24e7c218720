-- The blocks that serve so many bytes have as many.
use Rattle.std.proofs.Common.{ℕ, zero, suc, ◌≡◌, ◌<◌, ◌≤◌, ◌-◌, ◌*◌, ◌∙◌, Bool, true, false, true≢false, inl, inr, arith, refl, ap, subst, sym}
use Rattle.std.specs.Prelude.{nat_le}
use Rattle.std.proofs.lemmas.Bool.{cases_Bool, cases_lt, le-leb, leb-true, lt-leb}
use Rattle.heap_geometry.specs.declared.limits.TheConstants.{CLASSES, LARGE_MOST, MAX_UNITS, SMALL_MOST}
use Rattle.heap_geometry.specs.declared.need.Need.{Need}
use Rattle.heap_geometry.specs.declared.need.Need.TheVariants.{Large, Small, TooLarge}
use Rattle.heap_geometry.specs.Need.{class_words, least, need_of, run_words, usable_words}
use Rattle.live_heap.specs.declared.answers.AllocAnswer.TheVariants as alloc_answer
use Rattle.live_heap.specs.declared.block.Block.{Block}
use Rattle.live_heap.proofs.laws_for_builders.Giving.{given-enough}
use Rattle.block_cache.specs.declared.cache.Cache.{Cache}
use Rattle.block_cache.specs.Caches.{stacks_in}
use Rattle.block_cache.proofs.MagazineLemmas.{for-or-not}
use Rattle.balloc_c.specs.Lending.{words_for}
use Rattle.balloc_c.specs.Through.{IsAllocation}
use Rattle.balloc_c.proofs.Going.{same-given}

-- the least number that passes a test passes it, where one below the bound does
least-passes : (bound k : ℕ) (test : ℕ → Bool) → k < bound → test k ≡ true → test (least bound test) ≡ true
unfolding least
least-passes zero k test below passes = absurd (omega (arith, below))
least-passes (suc bound) zero test below passes = rw passes passes
least-passes (suc bound) (suc k) test below passes =
    elim (cases_Bool (test 0)) [
      | inl first ↦ rw first first
      | inr later ↦ rw later (least-passes bound k (λ j. test (suc j)) (omega (arith, below)) passes)
    ]

pub need-enough : (words : ℕ) → words ≤ LARGE_MOST → words ≤ usable_words (need_of words)
unfolding need_of
need-enough words within =
    elim (cases_lt SMALL_MOST words) [
      | inr small ↦
          let test : ℕ → Bool = λ class. nat_le words (class_words class) in
          rw (le-leb words SMALL_MOST small)
          (leb-true words (class_words (least CLASSES test))
          (least-passes CLASSES (CLASSES - 1) test (omega arith) (le-leb words (class_words (CLASSES - 1)) small)))
      | inl above ↦
          let test : ℕ → Bool = λ units. nat_le words (run_words units) in
          rw (lt-leb words SMALL_MOST above, le-leb words LARGE_MOST within)
          (leb-true words (run_words (least (suc MAX_UNITS) test))
          (least-passes (suc MAX_UNITS) MAX_UNITS test (omega arith) (le-leb words (run_words MAX_UNITS) within)))
    ]

-- more words than a small block has are served by no class
abbrev is_small : Need → Bool
is_small (Small class) = true
is_small (Large units) = false
is_small TooLarge = false

large-need : (words : ℕ) → SMALL_MOST < words → is_small (need_of words) ≡ false
unfolding need_of
large-need words above =
    elim (cases_Bool (nat_le words LARGE_MOST)) [
      | inl few ↦ rw (lt-leb words SMALL_MOST above, few) refl
      | inr many ↦ rw (lt-leb words SMALL_MOST above, many) refl
    ]

pub no-class : (words class : ℕ) → SMALL_MOST < words → need_of words ≡ Small class → ⊥
no-class words class above is = true≢false (sym (ap is_small is) ∙ large-need words above)

-- a block that was allocated for so many words has as many
pub block-enough :
    (c d : Cache) (words : ℕ) (block : Block) → words ≤ LARGE_MOST → IsAllocation c words (alloc_answer.Given block) d → words ≤ usable_words block.need
block-enough c d words block within told =
    elim (for-or-not (stacks_in c) (need_of words)) [
      | inl has ↦
          let served = told.served has in
          let s = served.2 in
          let same : block ≡ served.0 = same-given block served.0 served.1 in
          subst (λ (b : Block). words ≤ usable_words b.need) (sym same)
          (subst (λ (n : Need). words ≤ usable_words n) (s.small ∙ sym s.serves) (need-enough words within))
      | inr none ↦ given-enough c.pass d.pass words _ block.place block.need (told.asked none).0.0.called
    ]

-- and for so many bytes
pub bytes-enough : (bytes usable : ℕ) → words_for bytes ≤ LARGE_MOST → words_for bytes ≤ usable → bytes ≤ 8 * usable
bytes-enough bytes usable few enough = omega (arith, few, enough)
