-- How many words blocks have, and how much of its script a lane has left.
use Rattle.std.proofs.Common.{ℕ, zero, suc, ◌≡◌, ◌<◌, ◌≤◌, ◌+◌, ◌^◌, ◌∷◌, ◌++◌, List, [], Option, None, length, drop, arith}
use Rattle.trace_lane.proofs.Common.{Geometry, Need, Small, Large, TooLarge, IsNeed, Op, Outcome, Work, LARGE_MOST, SMALL_MOST, IsHeapBlock, usable_words}
use Rattle.trace_lane.proofs.Common.{length-append, begun_bound, script_left, work_begun}
use Rattle.std.proofs.Math.Pow.{pow_mono}
use Rattle.heap_geometry.specs.declared.limits.TheConstants.{CLASSES}

drop-below : (n : ℕ) (operations : List Op) (operation : Op) (rest : List Op) → drop n operations ≡ operation ∷ rest → n < length operations
drop-below zero [] operation rest next = absurd (let e : [] ≡ operation ∷ rest = next in cc)
drop-below zero (first ∷ operations) operation rest next = omega arith
drop-below (suc n) [] operation rest next = absurd (let e : [] ≡ operation ∷ rest = next in cc)
drop-below (suc n) (first ∷ operations) operation rest next = let below = drop-below n operations operation rest next in omega arith

-- how many words a block has
small-words : (class : ℕ) → class < CLASSES → (1 ≤ usable_words (Small class)) × (usable_words (Small class) ≤ SMALL_MOST)
small-words class few =
    let low : 2 ^ 1 ≤ 2 ^ (class + 1) = let p : 1 ≤ class + 1 = omega arith in pow_mono p in
    let high : 2 ^ (class + 1) ≤ 2 ^ CLASSES = let p : class + 1 ≤ CLASSES = omega arith in pow_mono p in
    (omega arith, omega arith)

-- a block of a heap has a word
pub need-some : (g : Geometry) (place : ℕ) (need : Need) → IsHeapBlock g place need → 0 < usable_words need
need-some g place (Small class) block = let w = small-words class block.0 in omega arith
need-some g place (Large units) block = omega (arith, block.0.0)
need-some g place TooLarge block = absurd block.1

-- no block has more words than the largest
pub need-words : (need : Need) → IsNeed need → usable_words need ≤ LARGE_MOST
need-words (Small class) is = let w = small-words class is in omega arith
need-words (Large units) is = omega arith
need-words TooLarge is = omega arith

-- a lane that has a next operation has fewer outcomes than operations
pub here-below :
    (operations rest : List Op) (results : List Outcome) (operation : Op) → drop (length results) operations ≡ operation ∷ rest
    → length results < length operations
here-below operations rest results operation next = drop-below (length results) operations operation rest next

-- what is left of a script falls: where the operation at hand begins or goes on, and where it ends
pub left-rises :
    {B : Type 0} (operations rest : List Op) (results : List Outcome) (operation : Op) (at to : Option (Work B)) → drop (length results) operations ≡ operation ∷ rest
    → work_begun at < work_begun to → work_begun at < begun_bound → script_left operations results to < script_left operations results at
left-rises operations rest results operation at to next rises few =
    let below : length results < length operations = here-below operations rest results operation next in omega arith

pub left-ends :
    {B : Type 0} (operations rest : List Op) (results : List Outcome) (operation : Op) (result : Outcome) (at : Option (Work B))
    → drop (length results) operations ≡ operation ∷ rest → work_begun at < begun_bound
    → script_left {B = B} operations (results ++ result ∷ []) None < script_left operations results at
left-ends operations rest results operation result at next few =
    let below : length results < length operations = here-below operations rest results operation next in
    let longer = length-append results (result ∷ []) in
    omega arith
