-- Where blocks lie.
use Rattle.std.proofs.Common.{ℕ, ◌≡◌, ◌≢◌, ◌+◌, ◌*◌, ◌/◌, ◌%◌, ◌<◌, ◌≤◌, arith, refl, inl, inr}
use Rattle.std.proofs.lemmas.Nat.{pow_pos, mul-le, div-mul-add}
use Rattle.std.proofs.lemmas.Bool.{cases_order}
use Rattle.heap_geometry.specs.declared.limits.TheConstants.{FRAME_WORDS}
use Rattle.heap_geometry.specs.Need.{block_words_of, block_count_of}
use Rattle.heap_geometry.specs.Place.{IsApart, IsBlockPlace, block_span, block_place, frame_of, index_of, unit_place, unit_of}

-- the frame's blocks fit into it
pub block-within : (class index : ℕ) → index < block_count_of class → index * block_words_of class + block_words_of class ≤ FRAME_WORDS
block-within class index within =
    let words = block_words_of class in
    let count : FRAME_WORDS / words * words ≤ FRAME_WORDS = omega (arith, pow_pos (class + 1)) in
    omega (arith, mul-le (index + 1) words (FRAME_WORDS / words) words (omega arith) (omega arith))

-- a block's place names its frame
pub frame_of-block_place : (frame class index : ℕ) → index < block_count_of class → frame_of (block_place frame class index) ≡ frame
frame_of-block_place frame class index within = omega (arith, block-within class index within, pow_pos (class + 1))

-- a block's place names its index
pub index_of-block_place :
    (frame class index : ℕ) → index < block_count_of class → index_of class (block_place frame class index) ≡ index
index_of-block_place frame class index within =
    let words = block_words_of class in
    let rest : (FRAME_WORDS * frame + index * words) % FRAME_WORDS ≡ index * words + 0 =
    omega (arith, block-within class index within, pow_pos (class + 1)) in
    rw rest (div-mul-add index words 0 (pow_pos (class + 1)))

-- the frame and the index that a block's place names lead back to it
pub block_place-split :
    (class place : ℕ) → IsBlockPlace class place → block_place (frame_of place) class (index_of class place) ≡ place
block_place-split class place (frame, index, _, within, is) =
    rw (is, frame_of-block_place frame class index within, index_of-block_place frame class index within) refl

-- a unit's place names the unit
pub unit_of-unit_place : (frames unit : ℕ) → unit_of frames (unit_place frames unit) ≡ unit
unit_of-unit_place frames unit = omega arith

-- two blocks of a frame have no word in common
pub frame-apart :
    (frame class i j : ℕ) → i ≢ j → IsApart (block_span frame class i) (block_span frame class j)
frame-apart frame class i j differ =
    let words = block_words_of class in
    elim (cases_order i j) [
      | inl same ↦ absurd (differ same)
      | inr (inl before) ↦ inl (omega (arith, mul-le (i + 1) words j words (omega arith) (omega arith)))
      | inr (inr after) ↦ inr (omega (arith, mul-le (j + 1) words i words (omega arith) (omega arith)))
    ]
