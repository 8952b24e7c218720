-- The words of a piece, and the piece of a word.
use Rattle.std.proofs.Common.{ℕ, true, false, ◌≡◌, ◌<◌, ◌≤◌, ◌+◌, ◌-◌, ◌*◌, arith, ap, inl, inr, ◌∙◌}
use Rattle.std.specs.Prelude.{nat_lt}
use Rattle.std.proofs.lemmas.Bool.{cases_lt, cond-true, cond-false}
use Rattle.heap_geometry.specs.declared.geometry.Geometry.{Geometry}
use Rattle.heap_geometry.specs.declared.limits.TheConstants.{FRAME_WORDS, UNIT_WORDS}
use Rattle.heap_geometry.specs.Place.{frame_of, unit_of, unit_place}
use Rattle.word_table.specs.Counts.{arena_words}
use Rattle.sound_laws.specs.uses.Pieces.{piece_count, piece_of, piece_start, piece_words}

pub below-true : (a b : ℕ) → a < b → nat_lt a b ≡ true
below-true a b l = grind (arith)

pub beyond-false : (a b : ℕ) → b ≤ a → nat_lt a b ≡ false
beyond-false a b l = grind (arith)

-- a frame
frame-start : (g : Geometry) (k : ℕ) → k < g.frames → piece_start g k ≡ FRAME_WORDS * k
frame-start g k has = cond-true {A = ℕ} (nat_lt k g.frames) (FRAME_WORDS * k) (unit_place g.frames (k - g.frames)) (below-true k g.frames has)

frame-words : (g : Geometry) (k : ℕ) → k < g.frames → piece_words g k ≡ FRAME_WORDS
frame-words g k has = cond-true {A = ℕ} (nat_lt k g.frames) FRAME_WORDS UNIT_WORDS (below-true k g.frames has)

pub frame-of : (g : Geometry) (w : ℕ) → w < FRAME_WORDS * g.frames → piece_of g w ≡ frame_of w
frame-of g w has = cond-true {A = ℕ} (nat_lt w (FRAME_WORDS * g.frames)) (frame_of w) (g.frames + unit_of g.frames w) (below-true w (FRAME_WORDS * g.frames) has)

-- a unit
unit-start : (g : Geometry) (k : ℕ) → g.frames ≤ k → piece_start g k ≡ unit_place g.frames (k - g.frames)
unit-start g k has = cond-false {A = ℕ} (nat_lt k g.frames) (FRAME_WORDS * k) (unit_place g.frames (k - g.frames)) (beyond-false k g.frames has)

unit-words : (g : Geometry) (k : ℕ) → g.frames ≤ k → piece_words g k ≡ UNIT_WORDS
unit-words g k has = cond-false {A = ℕ} (nat_lt k g.frames) FRAME_WORDS UNIT_WORDS (beyond-false k g.frames has)

pub unit-of : (g : Geometry) (w : ℕ) → FRAME_WORDS * g.frames ≤ w → piece_of g w ≡ g.frames + unit_of g.frames w
unit-of g w has = cond-false {A = ℕ} (nat_lt w (FRAME_WORDS * g.frames)) (frame_of w) (g.frames + unit_of g.frames w) (beyond-false w (FRAME_WORDS * g.frames) has)

-- a word of a piece lies in the arena, and in that piece
pub word-inside :
    (g : Geometry) (k j : ℕ) → k < piece_count g → j < piece_words g k → (piece_start g k + j < arena_words g) × (piece_of g (piece_start g k + j) ≡ k)
word-inside g k j has within =
    elim (cases_lt k g.frames) [
      | inl frame ↦
          let start = frame-start g k frame in
          let short : j < FRAME_WORDS = omega (arith, within, frame-words g k frame) in
          let inside : FRAME_WORDS * k + j < FRAME_WORDS * g.frames = omega (arith, frame, short) in
          let is : frame_of (FRAME_WORDS * k + j) ≡ k = omega (arith, short) in
          (omega (arith, start, inside), ap (λ w. piece_of g (w + j)) start ∙ frame-of g (FRAME_WORDS * k + j) inside ∙ is)
      | inr unit ↦
          let start = unit-start g k unit in
          let short : j < UNIT_WORDS = omega (arith, within, unit-words g k unit) in
          let at : ℕ = unit_place g.frames (k - g.frames) + j in
          let is : g.frames + unit_of g.frames at ≡ k = omega (arith, short, unit) in
          (omega (arith, start, short, unit, has), ap (λ w. piece_of g (w + j)) start ∙ unit-of g at (omega arith) ∙ is)
    ]

-- a word of the arena lies among those of its piece
pub word-among :
    (g : Geometry) (w : ℕ) → w < arena_words g
    → (piece_of g w < piece_count g) × (piece_start g (piece_of g w) ≤ w) × (w < piece_start g (piece_of g w) + piece_words g (piece_of g w))
word-among g w inside =
    elim (cases_lt w (FRAME_WORDS * g.frames)) [
      | inl frame ↦
          let is = frame-of g w frame in
          let low : frame_of w < g.frames = omega (arith, frame) in
          let start : piece_start g (piece_of g w) ≡ FRAME_WORDS * frame_of w = ap (piece_start g) is ∙ frame-start g (frame_of w) low in
          let words : piece_words g (piece_of g w) ≡ FRAME_WORDS = ap (piece_words g) is ∙ frame-words g (frame_of w) low in
          (omega (arith, is, low), omega (arith, start), omega (arith, start, words))
      | inr unit ↦
          let is = unit-of g w unit in
          let k : ℕ = g.frames + unit_of g.frames w in
          let start : piece_start g (piece_of g w) ≡ unit_place g.frames (k - g.frames) = ap (piece_start g) is ∙ unit-start g k (omega arith) in
          let words : piece_words g (piece_of g w) ≡ UNIT_WORDS = ap (piece_words g) is ∙ unit-words g k (omega arith) in
          (omega (arith, is, inside, unit), omega (arith, start, unit), omega (arith, start, words, unit))
    ]
