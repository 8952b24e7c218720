-- Memory of which a page may be cut.
use Rattle.std.proofs.Common.{ℕ, ◌≡◌, ◌+◌, ◌*◌, ◌/◌, ◌^◌, ◌<◌, ◌≤◌, max, refl, sym, ap, ◌∙◌, arith, inl, inr}
use Rattle.std.proofs.Math.Nat.{div-le_self, div_self, pow-le-pow_right}
use Rattle.std.proofs.lemmas.Bool.{cases_lt, le-leb, lt-leb}
use Rattle.std.proofs.lemmas.Nat.{div-add-mod', mul-le}
use Rattle.heap_geometry.specs.declared.geometry.Geometry.{Geometry}
use Rattle.heap_geometry.specs.declared.limits.TheConstants.{SMALL_MOST}
use Rattle.heap_geometry.specs.declared.need.Need.{Need}
use Rattle.heap_geometry.specs.declared.need.Need.TheVariants.{Small, Large, TooLarge}
use Rattle.heap_geometry.specs.Need.{least, need_of, usable_words}
use Rattle.errand_steps.specs.Begins.{IsHeapBlock}
use Rattle.memory_cache.specs.Pages.{IsPageFor}
use Rattle.memory_cache.specs.Sizes.{page_words, piece_words, steps_of}

-- a block of the largest class, or a run of units, lies at a multiple of 2,048 words
pub unit-place :
    (g : Geometry) (place : ℕ) (need : Need) → IsHeapBlock g place need → SMALL_MOST ≤ usable_words need → (unit : ℕ) × (place ≡ 2048 * unit)
unit-place g place (Small class) (needs, (frame, index, has, within, is)) long =
    elim (cases_lt class 10) [
      | inl below ↦
          let short : 2 ^ (class + 1) ≤ 2 ^ 10 = pow-le-pow_right (omega arith) {j = 10} (omega arith) in
          absurd (omega (arith, long, short))
      | inr above ↦
          let ten : class ≡ 10 = omega (arith, needs, above) in
          let wide : index * 2 ^ (class + 1) ≡ index * 2048 = ap (λ k. index * 2 ^ (k + 1)) ten in
          (2 * frame + index, omega (arith, is, wide))
    ]
unit-place g place (Large units) (needs, (unit, within, is)) long = (2 * g.frames + unit, omega (arith, is))
unit-place g place TooLarge (needs, nowhere) long = absurd nowhere

-- the words of a piece, by how many words it serves
close-words : (words : ℕ) → words ≤ 16 → piece_words words ≡ steps_of 2 (max words 1) * 2
unfolding piece_words
close-words words close = rw (le-leb words 16 close) refl

near-words : (words : ℕ) → 16 < words → words ≤ 32 → piece_words words ≡ steps_of 4 words * 4
unfolding piece_words
near-words words close near = rw (lt-leb words 16 close, le-leb words 32 near) refl

middle-words : (words : ℕ) → 32 < words → words ≤ 64 → piece_words words ≡ steps_of 8 words * 8
unfolding piece_words
middle-words words near middle = rw (lt-leb words 16 (omega (arith, near)), lt-leb words 32 near, le-leb words 64 middle) refl

far-words : (words : ℕ) → 64 < words → words ≤ 256 → piece_words words ≡ steps_of 16 words * 16
unfolding piece_words
far-words words middle far =
    rw (lt-leb words 16 (omega (arith, middle)), lt-leb words 32 (omega (arith, middle)), lt-leb words 64 middle, le-leb words 256 far) refl

paired-words : (words : ℕ) → 256 < words → words ≤ 1022 → piece_words words ≡ 1023 / (1023 / steps_of 2 words) * 2
unfolding piece_words
paired-words words far paired =
    rw (lt-leb words 16 (omega (arith, far)), lt-leb words 32 (omega (arith, far)), lt-leb words 64 (omega (arith, far)), lt-leb words 256 far, le-leb words 1022 paired) refl

alone-words : (words : ℕ) → 1022 < words → piece_words words ≡ usable_words (need_of (page_words words))
unfolding piece_words
alone-words words alone =
    rw (lt-leb words 16 (omega (arith, alone)), lt-leb words 32 (omega (arith, alone)), lt-leb words 64 (omega (arith, alone)), lt-leb words 256 (omega (arith, alone)), lt-leb words 1022 alone) refl

-- where a page has two pieces or more they have an even number of words
abbrev IsEven : ℕ → Type 0
IsEven size = (half : ℕ) × (size ≡ 2 * half) × (size ≤ 2047)

larger-even : (words : ℕ) → 32 < words → words ≤ 1022 → IsEven (piece_words words)
larger-even words more small =
    elim (cases_lt 64 words) [
      | inr middle ↦ (4 * steps_of 8 words, omega (arith, middle-words words more middle), omega (arith, middle-words words more middle))
      | inl many ↦
          elim (cases_lt 256 words) [
            | inr far ↦ (8 * steps_of 16 words, omega (arith, far-words words many far), omega (arith, far-words words many far))
            | inl most ↦
                let is = paired-words words most small in
                let within = div-le_self 1023 (1023 / steps_of 2 words) in
                (1023 / (1023 / steps_of 2 words), omega (arith, is), omega (arith, is, within))
          ]
    ]

small-even : (words : ℕ) → words ≤ 1022 → IsEven (piece_words words)
small-even words small =
    elim (cases_lt 16 words) [
      | inr close ↦ (steps_of 2 (max words 1), omega (arith, close-words words close), omega (arith, close-words words close))
      | inl more ↦
          elim (cases_lt 32 words) [
            | inr near ↦ (2 * steps_of 4 words, omega (arith, near-words words more near), omega (arith, near-words words more near))
            | inl most ↦ larger-even words most small
          ]
    ]

need-largest : need_of 2047 ≡ Small 10
unfolding need_of least
need-largest = refl

-- and the page is a block of the largest class
small-need : (words : ℕ) → words ≤ 1022 → need_of (page_words words) ≡ Small 10
small-need words small = let most : page_words words ≡ 2047 = omega arith in ap need_of most ∙ need-largest

one-more : (n size : ℕ) → (n + 1) * size ≡ n * size + size
one-more n size = grind arith

fits-within : (n size words : ℕ) → n < words / size → n * size + size ≤ words
fits-within n size words below =
    let most : (n + 1) * size ≤ words / size * size = mul-le (n + 1) size (words / size) size (omega arith) (omega arith) in
    omega (arith, most, one-more n size, div-add-mod' words size)

-- the memory that a page is taken of
pub page-for :
    (words place : ℕ) (need : Need) → 0 < piece_words words → need ≡ need_of (page_words words) → page_words words ≤ usable_words need
    → (unit : ℕ) × (place ≡ 2048 * unit) → IsPageFor (piece_words words) place need
page-for words place need some is enough aligned =
    let size = piece_words words in
    elim (cases_lt 1022 words) [
      | inr small ↦
          let used : usable_words need ≡ 2047 = ap usable_words (is ∙ small-need words small) in
          let even : IsEven size = small-even words small in
          record {
            some = some;
            long = omega (arith, used);
            fits = omega (arith, used, even.2);
            aligned = aligned;
            narrow = λ n below. omega (arith, fits-within n size (usable_words need) below, used, some);
            even = λ n below.
                let twice : n * (2 * even.0) ≡ 2 * (n * even.0) = grind arith in
                (n * even.0, ap (λ k. n * k) even.1 ∙ twice);
          }
      | inl alone ↦
          let whole : size ≡ usable_words need = alone-words words alone ∙ ap usable_words (sym is) in
          let one : usable_words need / size ≡ 1 = ap (λ u. u / size) (sym whole) ∙ div_self some in
          let none : (n : ℕ) → n < usable_words need / size → n * size ≡ 0 = λ n below.
          let first : n ≡ 0 = omega (arith, one, below) in
          let nothing : 0 * size ≡ 0 = omega arith in
          ap (λ k. k * size) first ∙ nothing in
          record {
            some = some;
            long = omega (arith, enough);
            fits = omega (arith, whole);
            aligned = aligned;
            narrow = λ n below. omega (arith, none n below);
            even = λ n below. (0, none n below);
          }
    ]
