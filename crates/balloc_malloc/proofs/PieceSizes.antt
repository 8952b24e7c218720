-- How many words a piece has is no code of a cause.
use Rattle.std.proofs.Common.{ℕ, zero, suc, Bool, true, false, ◌+◌, ◌*◌, ◌/◌, ◌^◌, ◌<◌, ◌≤◌, if◌then◌else◌, nat_le, arith, inl, inr}
use Rattle.std.proofs.Math.Pow.{pow_mono}
use Rattle.std.proofs.lemmas.Bool.{le-leb, lt-leb, cases_lt}
use Rattle.heap_geometry.specs.declared.limits.TheConstants.{CLASSES, SMALL_MOST, LARGE_MOST, MAX_UNITS}
use Rattle.heap_geometry.specs.Need.{class_words, least, need_of, run_words, usable_words}
use Rattle.memory_cache.specs.Sizes.{page_words, piece_words, steps_of}
use Rattle.balloc_malloc.specs.declared.codes.TheConstants.{CAUSES}

if-within : (b : Bool) (k bound : ℕ) → k ≤ bound → (if b then 0 else suc k) ≤ suc bound
if-within true k bound low = omega arith
if-within false k bound low = omega (arith, low)

least-within : (bound : ℕ) (test : ℕ → Bool) → least bound test ≤ bound
unfolding least
least-within zero test = omega arith
least-within (suc bound) test = if-within (test 0) (least bound (λ k. test (suc k))) bound (least-within bound (λ k. test (suc k)))

usable-few : (need : ℕ) → usable_words (need_of need) < CAUSES
unfolding need_of
usable-few need = elim (cases_lt SMALL_MOST need) [
  | inl more ↦ elim (cases_lt LARGE_MOST need) [
    | inl all ↦ rw (lt-leb need SMALL_MOST more, lt-leb need LARGE_MOST all) (omega arith)
    | inr large ↦
        rw (lt-leb need SMALL_MOST more, le-leb need LARGE_MOST large)
        (omega (arith, least-within (suc MAX_UNITS) (λ units. nat_le need (run_words units))))
  ]
  | inr small ↦
      let class = least CLASSES (λ class. nat_le need (class_words class)) in
      let p : class + 1 ≤ 12 = omega (arith, least-within CLASSES (λ class. nat_le need (class_words class))) in
      let most : 2 ^ (class + 1) ≤ 2 ^ 12 = pow_mono p in
      rw (le-leb need SMALL_MOST small) (omega (arith, most))
]

paired-few : (half : ℕ) → half ≤ 511 → 1023 / (1023 / half) * 2 < CAUSES
paired-few half low = omega arith

pub piece_words-few : (words : ℕ) → piece_words words < CAUSES
unfolding piece_words
piece_words-few words = elim (cases_lt 16 words) [
  | inl close ↦ elim (cases_lt 32 words) [
    | inl near ↦ elim (cases_lt 64 words) [
      | inl middle ↦ elim (cases_lt 256 words) [
        | inl far ↦ elim (cases_lt 1022 words) [
          | inl alone ↦
              rw (lt-leb words 16 close, lt-leb words 32 near, lt-leb words 64 middle, lt-leb words 256 far, lt-leb words 1022 alone) (usable-few (page_words words))
          | inr paired ↦
              rw (lt-leb words 16 close, lt-leb words 32 near, lt-leb words 64 middle, lt-leb words 256 far, le-leb words 1022 paired)
              (paired-few (steps_of 2 words) (omega (arith, paired)))
        ]
        | inr some ↦ rw (lt-leb words 16 close, lt-leb words 32 near, lt-leb words 64 middle, le-leb words 256 some) (omega (arith, some))
      ]
      | inr some ↦ rw (lt-leb words 16 close, lt-leb words 32 near, le-leb words 64 some) (omega (arith, some))
    ]
    | inr some ↦ rw (lt-leb words 16 close, le-leb words 32 some) (omega (arith, some))
  ]
  | inr few ↦ rw (le-leb words 16 few) (omega (arith, few))
]
