-- The words of a caller's seat, and of its superblocks.
use Rattle.std.proofs.Common.{ℕ, ◌+◌, ◌*◌, ◌/◌, ◌^◌, ◌<◌, ◌≤◌, Option, Some, None, arith}
use Rattle.std.specs.Prelude.{nat_lt, ◌&&◌}
use Rattle.std.proofs.lemmas.Bool.{cond_both, ltb-true, and_parts}
use Rattle.std.proofs.Math.Nat.{div-mul-le_self}
use Rattle.std.proofs.lemmas.Nat.{le-div, mul-le, pow_pos}
use Rattle.heap_geometry.specs.declared.geometry.Geometry.{Geometry}
use Rattle.std.proofs.Math.Pow.{pow_mono}
use Rattle.heap_geometry.specs.declared.limits.TheConstants.{CLASSES, FRAME_WORDS, MAX_COUNT}
use Rattle.heap_geometry.specs.Need.{block_words_of, block_count_of}
use Rattle.heap_geometry.specs.Place.{block_place}
use Rattle.packed_words.specs.Anchor.{AnchorFields, anchor_of}
use Rattle.packed_words.specs.Info.{InfoFields}
use Rattle.packed_words.proofs.AnchorLemmas.{IsAnchor-anchor_of}
use Rattle.word_table.specs.Counts.{arena_words}
use Rattle.word_table.specs.Seats.{SeatFields, heap_of, info_within, anchor_in}
use Rattle.word_table.specs.Sites.{IsAnchorOf}

-- a frame's blocks lie in the arena
pub block_place-within :
    (g : Geometry) (frame class index : ℕ) → frame < g.frames → index < block_count_of class
    → block_place frame class index < arena_words g
block_place-within g frame class index has within =
    let words = block_words_of class in
    let count : FRAME_WORDS / words * words ≤ FRAME_WORDS = omega (arith, pow_pos (class + 1)) in
    omega (arith, pow_pos (class + 1), mul-le (index + 1) words (FRAME_WORDS / words) words (omega arith) (omega arith))

-- a caller's processor heap is one of the heap's
pub heap_of-within : (s : SeatFields) → 0 < s.geometry.heaps → heap_of s < s.geometry.heaps
heap_of-within s some = omega arith

-- a superblock has at least two blocks
pub block_count_of-least : (class : ℕ) → class < CLASSES → 2 ≤ block_count_of class
block_count_of-least class below =
    let above : class + 1 ≤ CLASSES = omega arith in
    let most : 2 ^ (class + 1) ≤ 2 ^ CLASSES = pow_mono above in
    le-div 2 FRAME_WORDS (2 ^ (class + 1)) (pow_pos (class + 1)) (omega arith)

-- a superblock has at most as many blocks as there are of two words each
pub block_count_of-most : (class : ℕ) → block_count_of class ≤ MAX_COUNT
block_count_of-most class =
    let above : 1 ≤ class + 1 = omega arith in
    let least : 2 ^ 1 ≤ 2 ^ (class + 1) = pow_mono above in
    let whole : FRAME_WORDS / 2 ^ (class + 1) * 2 ^ (class + 1) ≤ FRAME_WORDS = div-mul-le_self FRAME_WORDS (2 ^ (class + 1)) in
    omega (arith, mul-le (FRAME_WORDS / 2 ^ (class + 1)) 2 (FRAME_WORDS / 2 ^ (class + 1)) (2 ^ (class + 1)) (omega arith) (omega arith))

-- what holds of an info that the heap has, and of none, holds of what a word says
pub each-info :
    (g : Geometry) (P : Option InfoFields → Type 0) (o : Option InfoFields) → P None
    → ((i : InfoFields) → i.frame < g.frames → i.heap < g.heaps → P (Some i)) → P (info_within g o)
each-info g P None none some = none
each-info g P (Some i) none some =
    cond_both (nat_lt i.frame g.frames && nat_lt i.heap g.heaps) (Some i) None P
    (λ e. let parts = and_parts (nat_lt i.frame g.frames) (nat_lt i.heap g.heaps) e in
    some i (ltb-true i.frame g.frames parts.0) (ltb-true i.heap g.heaps parts.1))
    (λ e. none)

-- what holds of an anchor of the class, and of none, holds of what a word says
pub each-anchor :
    (class word : ℕ) (P : Option AnchorFields → Type 0) → P None
    → ((a : AnchorFields) → IsAnchorOf class a → P (Some a)) → P (anchor_in class word)
each-anchor class word P none some =
    let a = anchor_of word in
    cond_both (nat_lt a.avail (block_count_of class)) (Some a) None P
    (λ e. some a (record { fits = IsAnchor-anchor_of word; avail = ltb-true a.avail (block_count_of class) e }))
    (λ e. none)
