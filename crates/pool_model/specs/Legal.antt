-- Which events a pool allows.
use Rattle.std.specs.Prelude.{ℕ, ◌+◌, ◌-◌, ◌*◌, ◌<◌, ◌≤◌, ◌≡◌, ◌≢◌, List, length, Some, None, All}
use Rattle.std.specs.List.Sorted.{IsStrictlyIncreasing}
use Rattle.heap_geometry.specs.declared.geometry.Geometry.{Geometry}
use Rattle.heap_geometry.specs.declared.limits.TheConstants.{CLASSES, SHELVES}
use Rattle.heap_geometry.specs.declared.need.Need.{Need}
use Rattle.heap_geometry.specs.declared.need.Need.TheVariants.{Small, Large, TooLarge}
use Rattle.heap_geometry.specs.Need.{need_of, usable_words, block_count_of}
use Rattle.heap_geometry.specs.Place.{Span, IsApart, block_place, unit_place, frame_of, block_span, run_span}
use Rattle.pool_model.specs.declared.owner.Owner.TheVariants.{Caller, Shelf}
use Rattle.pool_model.specs.declared.event.Event.{Event}
use Rattle.pool_model.specs.declared.event.Event.TheVariants.{Alloc, Looked, Refuse, Free, Write, Put, Take, TakeNone}
use Rattle.pool_model.specs.Histories.{caller_of, own, EndsWith, EachAfter}
use Rattle.pool_model.specs.Pool.{Block, Pool, block_at, EachBlock, Owns, span_of, pool_of}

-- no live block has a word of the span
abbrev pub IsClear : Pool → Span → Type 0
IsClear pool span = EachBlock (λ block. IsApart span (span_of block)) pool

-- every live block of the frame is of the class
abbrev pub HoldsOnly : Pool → ℕ → ℕ → Type 0
HoldsOnly pool frame class = EachBlock (λ block. frame_of block.place ≡ frame → block.need ≡ Small class) pool

-- a block of the class can be given at the place: it is one of a frame of this heap that holds no other class, and none of its words is live
pub record IsFreeBlock (g : Geometry) (pool : Pool) (class place : ℕ) : Type 0 where
  pub frame : ℕ
  pub index : ℕ
  pub in_heap : frame < g.frames
  pub in_frame : index < block_count_of class
  pub is_place : place ≡ block_place frame class index
  pub same_class : HoldsOnly pool frame class
  pub clear : IsClear pool (block_span frame class index)

-- a run of units can be given at the place: it lies within the heap's units, and none of its words is live
pub record IsFreeRun (g : Geometry) (pool : Pool) (units place : ℕ) : Type 0 where
  pub unit : ℕ
  pub in_heap : unit + units ≤ g.units
  pub is_place : place ≡ unit_place g.frames unit
  pub clear : IsClear pool (run_span g.frames unit units)

-- a block that serves the need can be given at the place
abbrev pub IsFree : Geometry → Pool → Need → ℕ → Type 0
IsFree g pool (Small class) place = IsFreeBlock g pool class place
IsFree g pool (Large units) place = IsFreeRun g pool units place
IsFree g pool TooLarge place = ⊥

-- no block lies on the shelf
abbrev pub IsEmptyShelf : Pool → ℕ → Type 0
IsEmptyShelf pool shelf = EachBlock (λ block. block.owner ≢ Shelf shelf) pool

-- the caller may be refused: of a small need, it has just looked for its class; of a large one, no run of units is free
abbrev pub IsRefusable : Geometry → List Event → ℕ → Need → Type 0
IsRefusable g before caller (Small class) = EndsWith (own caller before) (Looked caller class)
IsRefusable g before caller (Large units) = (place : ℕ) → ¬ IsFreeRun g (pool_of before) units place
IsRefusable g before caller TooLarge = ⊥

-- what an event wants of the events before it, but for the numbers of part-used and of bare frames
abbrev pub IsAllowed : Geometry → List Event → Event → Type 0
IsAllowed g before (Alloc caller need place) = IsFree g (pool_of before) (need_of need) place
IsAllowed g before (Looked caller class) = class < CLASSES
IsAllowed g before (Refuse caller need) = IsRefusable g before caller (need_of need)
IsAllowed g before (Free caller place) = Owns (pool_of before) (Caller caller) place
IsAllowed g before (Write caller place i v) =
    (block : Block) × (block_at place (pool_of before) ≡ Some block) × (block.owner ≡ Caller caller) × (i < usable_words block.need)
IsAllowed g before (Put caller place shelf) =
    Owns (pool_of before) (Caller caller) place × (shelf < SHELVES) × IsEmptyShelf (pool_of before) shelf
IsAllowed g before (Take caller shelf place) = Owns (pool_of before) (Shelf shelf) place × (shelf < SHELVES)
IsAllowed g before (TakeNone caller shelf) = (shelf < SHELVES) × IsEmptyShelf (pool_of before) shelf

-- a frame is part-used in a class: a block of the class is live in it, and at a place of the class none is
pub record IsPartUsed (pool : Pool) (class frame : ℕ) : Type 0 where
  pub block : Block
  pub live : block_at block.place pool ≡ Some block
  pub of_class : block.need ≡ Small class
  pub here : frame_of block.place ≡ frame
  pub index : ℕ
  pub in_frame : index < block_count_of class
  pub free : block_at (block_place frame class index) pool ≡ None

-- no block is live in the frame
abbrev pub IsBare : Pool → ℕ → Type 0
IsBare pool frame = EachBlock (λ block. frame_of block.place ≢ frame) pool

-- at most `most` of the numbers below a bound have a property: so many are in any list of such numbers, each once
abbrev pub AtMost : ℕ → ℕ → (ℕ → Type 0) → Type 0
AtMost most bound P = (ks : List ℕ) → IsStrictlyIncreasing ks → All (λ k. (k < bound) × P k) ks → length ks ≤ most

-- few frames are part-used in the class: two for each other caller and two for each heap
abbrev pub IsWorn : Geometry → Pool → ℕ → Type 0
IsWorn g pool class = AtMost (2 * g.heaps + 2 * g.callers - 2) g.frames (IsPartUsed pool class)

-- few frames are bare: one for each active superblock and one for each other caller
abbrev pub IsCrowded : Geometry → Pool → Type 0
IsCrowded g pool = AtMost (g.heaps * CLASSES + g.callers - 1) g.frames (IsBare pool)

-- the numbers of frames at an event: a look in vain finds its class worn, and the refusal of a small need finds the heap crowded
abbrev pub IsCountedFor : Geometry → Pool → Need → Type 0
IsCountedFor g pool (Small class) = IsCrowded g pool
IsCountedFor g pool (Large units) = Unit {0}
IsCountedFor g pool TooLarge = Unit {0}

abbrev pub IsCounted : Geometry → Pool → Event → Type 0
IsCounted g pool (Alloc caller need place) = Unit {0}
IsCounted g pool (Looked caller class) = IsWorn g pool class
IsCounted g pool (Refuse caller need) = IsCountedFor g pool (need_of need)
IsCounted g pool (Free caller place) = Unit {0}
IsCounted g pool (Write caller place i v) = Unit {0}
IsCounted g pool (Put caller place shelf) = Unit {0}
IsCounted g pool (Take caller shelf place) = Unit {0}
IsCounted g pool (TakeNone caller shelf) = Unit {0}

-- an event is legal after others, but for the numbers of part-used and of bare frames
abbrev pub IsLegalEventWithoutCounts : Geometry → List Event → Event → Type 0
IsLegalEventWithoutCounts g before event = (caller_of event < g.callers) × IsAllowed g before event

-- an event is legal after others
abbrev pub IsLegalEvent : Geometry → List Event → Event → Type 0
IsLegalEvent g before event = IsLegalEventWithoutCounts g before event × IsCounted g (pool_of before) event

-- each event of a history is legal after those before it, but for the numbers of part-used and of bare frames
abbrev pub IsLegalWithoutCounts : Geometry → List Event → Type 0
IsLegalWithoutCounts g history = EachAfter (IsLegalEventWithoutCounts g) history

-- each event of a history is legal after those before it
abbrev pub IsLegal : Geometry → List Event → Type 0
IsLegal g history = EachAfter (IsLegalEvent g) history
