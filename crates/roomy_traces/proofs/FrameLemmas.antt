-- Where few blocks are live, many frames are bare.
use Rattle.std.proofs.Common.{ℕ, zero, suc, Bool, true, false, not, eqb, get_or, filter, All, ◌≡◌, ◌≢◌, ◌+◌, ◌*◌, ◌-◌, ◌<◌, ◌≤◌, ◌&&◌, List, [], ◌∷◌, length, refl, ap, inl, inr, arith, eq-eqb, ne_eqb}
use Rattle.std.specs.List.{range_with_len}
use Rattle.std.specs.List.Sorted.{IsStrictlyIncreasing}
use Rattle.std.proofs.lemmas.Bool.{cases_eq, cases_Bool, and_parts, eqb-false, not-true}
use Rattle.std.proofs.lemmas.List.Elements.{All-filter, filter_passes}
use Rattle.std.proofs.lemmas.List.FromFn.{length-range_with_len, get_or-range_with_len}
use Rattle.std.proofs.lemmas.List.Kept.{IsStrictlyIncreasing-filter}
use Rattle.heap_geometry.specs.declared.geometry.Geometry.{Geometry}
use Rattle.heap_geometry.specs.declared.limits.TheConstants.{CLASSES}
use Rattle.heap_geometry.specs.Place.{frame_of}
use Rattle.pool_model.specs.Pool.{Block, Pool}
use Rattle.pool_model.specs.Legal.{IsCrowded}
use Rattle.pool_model.proofs.PoolLemmas.{Every, every-each}

-- no block of the pool lies in the frame
abbrev is_bare : Pool → ℕ → Bool
is_bare [] frame = true
is_bare (block ∷ pool) frame = not (eqb (frame_of block.place) frame) && is_bare pool frame

-- the bare frames, so many being looked at
abbrev bare_from : Pool → ℕ → ℕ → List ℕ
bare_from pool first count = filter (is_bare pool) (range_with_len first count)

bare-every : (pool : Pool) (frame : ℕ) → is_bare pool frame ≡ true → Every (λ block. frame_of block.place ≢ frame) pool
bare-every [] frame bare = tt
bare-every (block ∷ pool) frame bare =
    let parts = and_parts (not (eqb (frame_of block.place) frame)) (is_bare pool frame) bare in (
      eqb-false (frame_of block.place) frame (not-true (eqb (frame_of block.place) frame) parts.0),
      bare-every pool frame parts.1,
    )

range-rises : (first count : ℕ) → IsStrictlyIncreasing (range_with_len first count)
range-rises first count k within =
    let many = length-range_with_len first count in
    omega (
      arith,
      get_or-range_with_len first count k 0 (omega (arith, within, many)),
      get_or-range_with_len first count (k + 1) 0 (omega (arith, within, many)),
    )

range-below : (count : ℕ) → All (λ k. k < count) (range_with_len 0 count)
range-below count k d within =
    let below : k < count = omega (arith, within, length-range_with_len 0 count) in
    omega (arith, get_or-range_with_len 0 count k d below, below)

-- a block in an earlier frame keeps no frame from being bare
none-less :
    (block : Block) (pool : Pool) (first count : ℕ) → frame_of block.place < first
    → length (bare_from pool first count) ≡ length (bare_from (block ∷ pool) first count)
none-less block pool first zero before = refl
none-less block pool first (suc count) before =
    let rest = none-less block pool (first + 1) count (omega (arith, before)) in
    let other : eqb (frame_of block.place) first ≡ false = ne_eqb (frame_of block.place) first (λ e. absurd (omega (arith, e, before))) in
    rw other
    (elim (cases_Bool (is_bare pool first)) [
      | inl bare ↦ rw bare (ap suc rest)
      | inr held ↦ rw held rest
    ])

-- each block keeps at most one frame from being bare
one-less :
    (block : Block) (pool : Pool) (first count : ℕ) → length (bare_from pool first count) ≤ length (bare_from (block ∷ pool) first count) + 1
one-less block pool first zero = omega arith
one-less block pool first (suc count) =
    elim (cases_eq (frame_of block.place) first) [
      | inl here ↦
          let rest = none-less block pool (first + 1) count (omega (arith, here)) in
          rw (eq-eqb (frame_of block.place) first here)
          (elim (cases_Bool (is_bare pool first)) [
            | inl bare ↦ rw bare (omega (arith, rest))
            | inr held ↦ rw held (omega (arith, rest))
          ])
      | inr other ↦
          let rest = one-less block pool (first + 1) count in
          rw (ne_eqb (frame_of block.place) first other)
          (elim (cases_Bool (is_bare pool first)) [
            | inl bare ↦ rw bare (omega (arith, rest))
            | inr held ↦ rw held rest
          ])
    ]

all-bare : (first count : ℕ) → length (bare_from [] first count) ≡ count
all-bare first zero = refl
all-bare first (suc count) = ap suc (all-bare (first + 1) count)

few-held : (pool : Pool) (count : ℕ) → count ≤ length (bare_from pool 0 count) + length pool
few-held [] count = omega (arith, all-bare 0 count)
few-held (block ∷ pool) count = omega (arith, one-less block pool 0 count, few-held pool count)

-- a crowded heap has a live block for almost each frame
pub crowded-live : (g : Geometry) (pool : Pool) → IsCrowded g pool → g.frames ≤ length pool + (g.heaps * CLASSES + g.callers - 1)
crowded-live g pool crowded =
    let bare : List ℕ = bare_from pool 0 g.frames in
    let range : List ℕ = range_with_len 0 g.frames in
    let below : All (λ k. k < g.frames) bare = All-filter (is_bare pool) (λ k. k < g.frames) range (range-below g.frames) in
    let passes : All (λ k. is_bare pool k ≡ true) bare = filter_passes (is_bare pool) range in
    let rises : IsStrictlyIncreasing bare = IsStrictlyIncreasing-filter (is_bare pool) range (range-rises 0 g.frames) in
    let few : length bare ≤ g.heaps * CLASSES + g.callers - 1 =
    crowded bare rises
    (λ k d within. (
      below k d within,
      every-each (λ block. frame_of block.place ≢ get_or bare k d) pool (bare-every pool (get_or bare k d) (passes k d within)),
    )) in
    omega (arith, few, few-held pool g.frames)
