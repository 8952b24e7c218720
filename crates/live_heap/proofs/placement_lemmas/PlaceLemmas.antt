-- Places rise with their numbers, so no two numbers have one place.
use Rattle.std.proofs.Common.{ℕ, ◌≡◌, ◌≢◌, ◌<◌, ◌≤◌, ◌+◌, ◌*◌, ◌-◌, ◌^◌, arith, inl, inr, refl, ap}
use Rattle.std.proofs.lemmas.Bool.{cases_lt}
use Rattle.heap_geometry.specs.declared.geometry.Geometry.{Geometry}
use Rattle.heap_geometry.specs.declared.limits.TheConstants.{CLASSES}
use Rattle.heap_geometry.specs.Geometry.{IsChecked}
use Rattle.word_table.specs.Counts.{descriptor_count, word_count}
use Rattle.word_table.proofs.CountLemmas.{descriptor_count_within, word_count_within}
use Rattle.word_table.specs.Table.{start_of, word_index, words_in}
use Rattle.word_table.specs.declared.name.WordName.TheVariants.{Anchor, Active, FrameHead}
use Rattle.live_heap.specs.declared.placement.Stretch.{Stretch}
use Rattle.live_heap.specs.declared.placement.Stretches.{Stretches}
use Rattle.live_heap.specs.placement.Starts.{stretches_of}
use Rattle.live_heap.specs.declared.placement.TheConstants.{APART}
use Rattle.live_heap.specs.placement.Places.{passed, place, placed_count, stretch_of_heads, stretch_of_heaps, stretch_of_superblocks}

passed-rises : (s : Stretch) (i j : ℕ) → i ≤ j → passed s i ≤ passed s j
passed-rises s i j le = omega arith

passed-most : (s : Stretch) (i : ℕ) → passed s i ≤ s.gaps
passed-most s i = omega arith

-- a greater number has a greater place
pub place-rises : (g : Geometry) (i j : ℕ) → i < j → place g i < place g j
unfolding place
place-rises g i j lt =
    let le : i ≤ j = omega arith in
    let a = passed-rises (stretch_of_superblocks g) i j le in
    let b = passed-rises (stretch_of_heaps g) i j le in
    let c = passed-rises (stretch_of_heads g) i j le in
    sums (passed (stretch_of_superblocks g) i) (passed (stretch_of_superblocks g) j) (passed (stretch_of_heaps g) i) (passed (stretch_of_heaps g) j)
    (passed (stretch_of_heads g) i) (passed (stretch_of_heads g) j) a b c
  where
    sums : (a b c d e f : ℕ) → a ≤ b → c ≤ d → e ≤ f → i + (APART - 1) * (a + c + e) < j + (APART - 1) * (b + d + f)
    sums a b c d e f p q r = omega arith

-- two numbers have two places
pub place-apart : (g : Geometry) (i j : ℕ) → j ≢ i → place g j ≢ place g i
place-apart g i j differ same =
    elim (cases_lt i j) [
      | inl less ↦ let l = place-rises g i j less in absurd (omega arith)
      | inr not_less ↦
          elim (cases_lt j i) [
            | inl less ↦ let l = place-rises g j i less in absurd (omega arith)
            | inr past ↦ absurd (differ (omega arith))
          ]
    ]

-- a number of the table has its place in memory
pub place-within : (g : Geometry) (i : ℕ) → i < word_count g → place g i < placed_count g
place-within g i below = place-rises g i (word_count g) below

-- no place of a number up to the table's end is 2 ^ 32 or more
pub place-most : (g : Geometry) (i : ℕ) → IsChecked g → i ≤ word_count g → place g i < 2 ^ 32
unfolding place
place-most g i checked within =
    let a = passed-most (stretch_of_superblocks g) i in
    let b = passed-most (stretch_of_heaps g) i in
    let c = passed-most (stretch_of_heads g) i in
    sums (passed (stretch_of_superblocks g) i) (passed (stretch_of_heaps g) i) (passed (stretch_of_heads g) i) a b c
  where
    sums : (a b c : ℕ) → a ≤ descriptor_count g + 1 → b ≤ 2 * (g.heaps * CLASSES) + CLASSES + 1 → c ≤ g.callers + 3 + 1 → i + (APART - 1) * (a + b + c) < 2 ^ 32
    sums a b c p q r = omega (arith, descriptor_count_within g checked, word_count_within g checked, checked.heaps.1, checked.callers.1)

-- the place of a number, where the stretches are known
pub placed-is :
    (g : Geometry) (s : Stretches) (index a b c : ℕ) → s ≡ stretches_of g → a ≡ passed s.superblocks index → b ≡ passed s.heaps index
    → c ≡ passed s.heads index → index + (APART - 1) * (a + b + c) ≡ place g index
unfolding place
placed-is g s index a b c is is_a is_b is_c = rw (is_a, is_b, is_c, is) refl

-- the gaps of two stretches before a number are fewer than 2 ^ 32
pub two-fit :
    (g : Geometry) (s : Stretches) (index a b : ℕ) → IsChecked g → s ≡ stretches_of g → a ≡ passed s.superblocks index
    → b ≡ passed s.heaps index → a + b < 2 ^ 32
two-fit g s index a b checked is is_a is_b =
    let words_s : s.superblocks.gaps ≡ descriptor_count g + 1 = ap (λ (x : Stretches). x.superblocks.gaps) is in
    let words_t : s.heaps.gaps ≡ 2 * (g.heaps * CLASSES) + CLASSES + 1 = ap (λ (x : Stretches). x.heaps.gaps) is in
    omega (arith, is_a, is_b, passed-most s.superblocks index, passed-most s.heaps index, words_s, words_t, descriptor_count_within g checked, checked.heaps.1)

-- no place is less than its number
pub place-least : (g : Geometry) (i : ℕ) → i ≤ place g i
unfolding place
place-least g i = omega arith

-- a heap has a descriptor
pub some-descriptor : (g : Geometry) → IsChecked g → 0 < descriptor_count g
unfolding descriptor_count
some-descriptor g checked = omega (arith, checked.frames.0)

-- places keep the order of the numbers
pub place-keeps : (g : Geometry) (i j : ℕ) → i ≤ j → place g i ≤ place g j
place-keeps g i j le =
    elim (cases_lt i j) [
      | inl less ↦ let l = place-rises g i j less in omega arith
      | inr past ↦ let same : i ≡ j = omega arith in rw same (omega arith)
    ]

-- the first words of the stretches are not the first of the table
pub some-before : (g : Geometry) → IsChecked g → (0 < word_index g (Anchor 0)) × (0 < word_index g (Active 0 0)) × (0 < word_index g FrameHead)
unfolding word_index start_of words_in
some-before g checked = (omega (arith, checked.frames.0), omega (arith, checked.frames.0), omega (arith, checked.frames.0))
