-- Spans that lie apart within a range have no more words than the range.
use Rattle.std.proofs.Common.{ℕ, zero, suc, ◌≡◌, ◌+◌, ◌≤◌, ◌∷◌, List, [], ◌≢◌, length, min, refl, ap, ◌∙◌, inl, inr, arith}
use Rattle.std.specs.Prelude.{nat_lt, if◌then◌else◌, ◌⊎◌}
use Rattle.std.proofs.lemmas.Bool.{cases_lt, cases_eq, lt-ltb, le-ltb}
use Rattle.std.proofs.lemmas.List.Sums.{sum_by-cons}
use Rattle.heap_geometry.specs.declared.geometry.Geometry.{Geometry}
use Rattle.heap_geometry.specs.declared.need.Need.{Need}
use Rattle.heap_geometry.specs.declared.need.Need.TheVariants.{Small, Large, TooLarge}
use Rattle.heap_geometry.specs.Need.{IsNeed}
use Rattle.heap_geometry.specs.Place.{unit_place}
use Rattle.heap_geometry.proofs.PlaceLemmas.{block-within}
use Rattle.pool_model.specs.declared.event.Event.{Event}
use Rattle.pool_model.specs.Legal.{IsLegalWithoutCounts}
use Rattle.pool_model.specs.Pool.{pool_of}
use Rattle.pool_model.specs.WellFormed.{IsWellFormed, IsPlaceFor, IsSeparate}
use Rattle.pool_model.proofs.PoolLemmas.{every-map, pairs-map}
use Rattle.pool_model.proofs.WellFormedLemmas.{sound-of, class_span, run_span_words}
use Rattle.heap_geometry.specs.Place.{Span, IsApart}
use Rattle.heap_geometry.specs.Need.{usable_words}
use Rattle.pool_model.specs.Pool.{Block, Pool, span_of, live_words}
use Rattle.pool_model.proofs.PoolLemmas.{Every, Pairs}

-- the sum of a function over the numbers below a bound
sum_below : ℕ → (ℕ → ℕ) → ℕ
sum_below zero f = 0
sum_below (suc n) f = sum_below n f + f n

-- how often a span covers a word: once, or not at all
covers : Span → ℕ → ℕ
covers span word = if nat_lt word span.first then 0 else (if nat_lt word (span.first + span.words) then 1 else 0)

-- how many blocks of a pool cover a word
covered : Pool → ℕ → ℕ
covered [] word = 0
covered (block ∷ pool) word = covers (span_of block) word + covered pool word

-- a span covers as many words below a bound as it has there
covers-below : (n : ℕ) (span : Span) → sum_below n (covers span) + min n span.first ≡ min n (span.first + span.words)
unfolding sum_below covers
covers-below zero span = omega arith
covers-below (suc n) span =
    elim (cases_lt n span.first) [
      | inl before ↦ rw (lt-ltb n span.first before) (omega (arith, covers-below n span))
      | inr from ↦ elim (cases_lt n (span.first + span.words)) [
        | inl inside ↦ rw (le-ltb n span.first from, lt-ltb n (span.first + span.words) inside) (omega (arith, covers-below n span))
        | inr after ↦ rw (le-ltb n span.first from, le-ltb n (span.first + span.words) after) (omega (arith, covers-below n span))
      ]
    ]

-- a span that ends before the bound covers all of its words below it
covers-whole : (n : ℕ) (span : Span) → span.first + span.words ≤ n → sum_below n (covers span) ≡ span.words
covers-whole n span within = omega (arith, covers-below n span)

-- sums are added word by word
sum_below-add : (n : ℕ) (f g : ℕ → ℕ) → sum_below n (λ k. f k + g k) ≡ sum_below n f + sum_below n g
unfolding sum_below
sum_below-add zero f g = refl
sum_below-add (suc n) f g = omega (arith, sum_below-add n f g)

-- a function that is at most 1 has a sum of at most the bound
sum_below-ones : (n : ℕ) (f : ℕ → ℕ) → ((k : ℕ) → f k ≤ 1) → sum_below n f ≤ n
unfolding sum_below
sum_below-ones zero f ones = omega arith
sum_below-ones (suc n) f ones = omega (arith, sum_below-ones n f ones, ones n)

-- the words of all blocks, each with its prefix
span_words : Pool → ℕ
span_words [] = 0
span_words (block ∷ pool) = (1 + usable_words block.need) + span_words pool

-- the words of all blocks are one more for each block than their usable words
span_words-is : (pool : Pool) → span_words pool ≡ length pool + live_words pool
unfolding span_words
span_words-is [] = refl
span_words-is (block ∷ pool) = omega (arith, sum_by-cons (λ b. usable_words b.need) block pool, span_words-is pool)

covered-nothing : (n : ℕ) → sum_below n (covered []) ≡ 0
unfolding sum_below covered
covered-nothing zero = refl
covered-nothing (suc n) = omega (arith, covered-nothing n)

-- the blocks that end before a bound cover all of their words below it
covered-whole : (n : ℕ) (pool : Pool) → Every (λ block. (span_of block).first + (span_of block).words ≤ n) pool → sum_below n (covered pool) ≡ span_words pool
unfolding sum_below covered span_words
covered-whole n [] within = covered-nothing n
covered-whole n (block ∷ pool) within =
    sum_below-add n (covers (span_of block)) (covered pool)
    ∙ (ap (λ k. k + sum_below n (covered pool)) (covers-whole n (span_of block) within.0) ∙ ap (λ k. (1 + usable_words block.need) + k) (covered-whole n pool within.1))

-- a word in a span is in no span apart from it
apart-covers : (a b : Span) (word : ℕ) → IsApart a b → covers a word ≡ 0 ⊎ covers b word ≡ 0
unfolding covers
apart-covers a b word (inl before) =
    elim (cases_lt word b.first) [
      | inl left ↦ inr (rw (lt-ltb word b.first left) refl)
      | inr right ↦ inl (rw (le-ltb word a.first (omega arith), le-ltb word (a.first + a.words) (omega arith)) refl)
    ]
apart-covers a b word (inr after) =
    elim (cases_lt word a.first) [
      | inl left ↦ inl (rw (lt-ltb word a.first left) refl)
      | inr right ↦ inr (rw (le-ltb word b.first (omega arith), le-ltb word (b.first + b.words) (omega arith)) refl)
    ]

-- a span covers a word once at most
covers-once : (a : Span) (word : ℕ) → covers a word ≤ 1
unfolding covers
covers-once a word =
    elim (cases_lt word a.first) [
      | inl left ↦ rw (lt-ltb word a.first left) (omega arith)
      | inr from ↦ elim (cases_lt word (a.first + a.words)) [
        | inl inside ↦ rw (le-ltb word a.first from, lt-ltb word (a.first + a.words) inside) (omega arith)
        | inr right ↦ rw (le-ltb word a.first from, le-ltb word (a.first + a.words) right) (omega arith)
      ]
    ]

-- a word that a block covers is covered by no block apart from it
covered-none :
    (block : Block) (pool : Pool) (word : ℕ) → covers (span_of block) word ≢ 0 → Every (λ other. IsApart (span_of block) (span_of other)) pool
    → covered pool word ≡ 0
unfolding covered
covered-none block [] word covers_it apart = refl
covered-none block (other ∷ pool) word covers_it apart =
    elim (apart-covers (span_of block) (span_of other) word apart.0) [
      | inl none ↦ absurd (covers_it none)
      | inr none ↦ omega (arith, none, covered-none block pool word covers_it apart.1)
    ]

-- blocks that lie apart cover each word once at most
covered-once : (pool : Pool) (word : ℕ) → Pairs (λ a b. IsApart (span_of a) (span_of b)) pool → covered pool word ≤ 1
unfolding covered
covered-once [] word apart = omega arith
covered-once (block ∷ pool) word apart =
    elim (cases_eq (covers (span_of block) word) 0) [
      | inl none ↦ omega (arith, none, covered-once pool word apart.1)
      | inr some ↦ omega (arith, covers-once (span_of block) word, covered-none block pool word some apart.0)
    ]

-- blocks that lie apart below a bound have at most so many words
pub words-fit :
    (n : ℕ) (pool : Pool) → Every (λ block. (span_of block).first + (span_of block).words ≤ n) pool
    → Pairs (λ a b. IsApart (span_of a) (span_of b)) pool → length pool + live_words pool ≤ n
words-fit n pool within apart =
    omega (arith, span_words-is pool, covered-whole n pool within, sum_below-ones n (covered pool) (λ word. covered-once pool word apart))

-- a block of a heap ends within its arena
ends-within :
    (g : Geometry) (n : Need) (place : ℕ) → IsNeed n → IsPlaceFor g n place → place + (1 + usable_words n) ≤ unit_place g.frames g.units
ends-within g (Small class) place need (frame, index, in_heap, in_frame, is) =
    omega (arith, is, class_span class, block-within class index in_frame)
ends-within g (Large units) place need (unit, in_heap, is) = omega (arith, is, need.0, run_span_words units need)
ends-within g TooLarge place need is = absurd is

-- the live blocks of a heap fit into its arena
pub live-fits :
    (g : Geometry) (history : List Event) → IsLegalWithoutCounts g history
    → length (pool_of history) + live_words (pool_of history) ≤ unit_place g.frames g.units
live-fits g history legal =
    let sound = sound-of g history legal in
    words-fit (unit_place g.frames g.units) (pool_of history)
    (every-map (IsWellFormed g) (λ block. (span_of block).first + (span_of block).words ≤ unit_place g.frames g.units) (pool_of history)
    (λ block formed. ends-within g block.need block.place formed.need formed.place) sound.each)
    (pairs-map IsSeparate (λ a b. IsApart (span_of a) (span_of b)) (pool_of history) (λ a b apart. apart.apart) sound.pairs)
