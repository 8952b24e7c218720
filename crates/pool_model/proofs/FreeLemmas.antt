-- Which places are free, and when a refusal is legal.
use Rattle.std.proofs.Common.{ℕ, true, ◌≡◌, ◌≢◌, ◌+◌, ◌<◌, ◌⊎◌, [], ◌∷◌, Option, Some, None, refl, sym, ◌∙◌, ap, inl, inr, arith, nat_lt}
use Rattle.std.proofs.lemmas.Bool.{cases_eq, cases_lt, agree_below_at, ltb-true}
use Rattle.std.proofs.lemmas.List.Elements.{All-head}
use Rattle.std.proofs.lemmas.Nat.{pow_pos}
use Rattle.heap_geometry.specs.declared.geometry.Geometry.{Geometry}
use Rattle.heap_geometry.specs.declared.limits.TheConstants.{CLASSES}
use Rattle.heap_geometry.specs.declared.need.Need.{Need}
use Rattle.heap_geometry.specs.declared.need.Need.TheVariants.{Small, Large, TooLarge}
use Rattle.heap_geometry.specs.Need.{block_words_of, block_count_of}
use Rattle.heap_geometry.specs.Place.{Span, IsApart, block_place, frame_of, block_span}
use Rattle.heap_geometry.proofs.PlaceLemmas.{frame_of-block_place, block-within, frame-apart}
use Rattle.pool_model.specs.Pool.{Block, Pool, block_at, span_of}
use Rattle.pool_model.specs.Legal.{IsFreeBlock, IsClear, HoldsOnly, IsPartUsed, IsBare, AtMost, IsWorn, IsCrowded}
use Rattle.pool_model.specs.WellFormed.{IsPlaceFor, IsWellFormed, IsSeparate}
use Rattle.pool_model.proofs.PoolLemmas.{every-found, place-found}
use Rattle.pool_model.proofs.WellFormedLemmas.{IsSoundPool, separate-found, class_span, apart-differ}

pub option_cases : (o : Option Block) → (o ≡ None) ⊎ ((block : Block) × (o ≡ Some block))
option_cases None = inl refl
option_cases (Some block) = inr (block, refl)

pub apart-right : (a b c : Span) → c.first ≡ b.first → c.words ≡ b.words → IsApart a b → IsApart a c
apart-right a b c first words apart = elim apart [ inl h ↦ inl (omega arith) | inr h ↦ inr (omega arith) ]

-- a class has a block in each frame
pub some-blocks : (class : ℕ) → class < CLASSES → 0 < block_count_of class
some-blocks class below =
    ltb-true 0 (block_count_of class) (agree_below_at (λ c. nat_lt 0 (block_count_of c)) (λ c. true) CLASSES class refl below)

-- a frame with a live block of a class holds only that class
pub holds-only :
    (g : Geometry) (pool : Pool) → IsSoundPool g pool → (place class frame : ℕ) (block : Block) → block_at place pool ≡ Some block
    → block.need ≡ Small class → frame_of block.place ≡ frame → HoldsOnly pool frame class
holds-only g pool sound place class frame block found same here other_place other other_found there =
    elim (cases_eq place other_place) [
      | inl one ↦
          let e : Some block ≡ Some other = sym found ∙ ap (λ (p : ℕ). block_at p pool) one ∙ other_found in
          let blocks : block ≡ other = cc in
          ap (λ (b : Block). b.need) (sym blocks) ∙ same
      | inr two ↦
          let separate : IsSeparate block other = separate-found g pool sound place other_place block other found other_found two in
          (separate.classes class (here ∙ sym there)).0 same
    ]

-- two blocks of two frames have no word in common
pub frames-apart :
    (frame class index other own j : ℕ) → index < block_count_of class → j < block_count_of own → other ≢ frame
    → IsApart (block_span frame class index) (block_span other own j)
frames-apart frame class index other own j in_frame in_other ne =
    let one = block-within class index in_frame in
    let two = block-within own j in_other in
    elim (cases_lt frame other) [ inl before ↦ inl (omega arith) | inr after ↦ inr (omega arith) ]

-- a block of the class and another block that lies elsewhere have no word in common
pub clear-of :
    (g : Geometry) (frame class index : ℕ) (other : Block) (n : Need) → other.need ≡ n → IsPlaceFor g n other.place → frame < g.frames
    → index < block_count_of class → (frame_of other.place ≡ frame → other.need ≡ Small class) → other.place ≢ block_place frame class index
    → IsApart (block_span frame class index) (span_of other)
clear-of g frame class index other (Small own) same (f, i, in_heap, in_f, at) below in_frame only elsewhere =
    let words : (span_of other).words ≡ block_words_of own = rw same (class_span own) in
    elim (cases_eq f frame) [
      | inl here ↦
          let there : frame_of other.place ≡ frame = ap frame_of at ∙ frame_of-block_place f own i in_f ∙ here in
          let classes : Small own ≡ Small class = sym same ∙ only there in
          let class_same : own ≡ class = cc in
          let at_here : other.place ≡ block_place frame class i =
          at ∙ ap (λ (x : ℕ). block_place x own i) here ∙ ap (λ (c : ℕ). block_place frame c i) class_same in
          let differ : index ≢ i = λ e. elsewhere (at_here ∙ ap (block_place frame class) (sym e)) in
          apart-right (block_span frame class index) (block_span frame class i) (span_of other) at_here
          (words ∙ ap block_words_of class_same) (frame-apart frame class index i differ)
      | inr apart ↦
          apart-right (block_span frame class index) (block_span f own i) (span_of other) at words
          (frames-apart frame class index f own i in_frame in_f apart)
    ]
clear-of g frame class index other (Large units) same (unit, in_heap, at) below in_frame only elsewhere =
    let one = block-within class index in_frame in inl (omega arith)
clear-of g frame class index other TooLarge same placed below in_frame only elsewhere = absurd placed

pub clear-block :
    (g : Geometry) (pool : Pool) → IsSoundPool g pool → (frame class index : ℕ) → frame < g.frames → index < block_count_of class
    → HoldsOnly pool frame class → block_at (block_place frame class index) pool ≡ None → IsClear pool (block_span frame class index)
clear-block g pool sound frame class index below in_frame only none place other found =
    let formed : IsWellFormed g other = every-found (IsWellFormed g) place pool other sound.each found in
    clear-of g frame class index other other.need refl formed.place below in_frame (only place other found)
    (λ at.
    let here : block_at (block_place frame class index) pool ≡ Some other =
    ap (λ (p : ℕ). block_at p pool) (sym at ∙ place-found place pool other found) ∙ found in
    absurd (let e : None ≡ Some other = sym none ∙ here in cc))

-- a place of a part-used frame is free
pub part_used-free :
    (g : Geometry) (pool : Pool) → IsSoundPool g pool → (class frame : ℕ) → frame < g.frames → (part : IsPartUsed pool class frame)
    → IsFreeBlock g pool class (block_place frame class part.index)
part_used-free g pool sound class frame below part =
    let only : HoldsOnly pool frame class =
    holds-only g pool sound part.block.place class frame part.block part.live part.of_class part.here in
    record {
      frame = frame;
      index = part.index;
      in_heap = below;
      in_frame = part.in_frame;
      is_place = refl;
      same_class = only;
      clear = clear-block g pool sound frame class part.index below part.in_frame only part.free;
    }

-- the first place of a bare frame is free
pub bare-free :
    (g : Geometry) (pool : Pool) → IsSoundPool g pool → (class frame : ℕ) → class < CLASSES → frame < g.frames → IsBare pool frame
    → IsFreeBlock g pool class (block_place frame class 0)
bare-free g pool sound class frame is_class below bare =
    let in_frame : 0 < block_count_of class = some-blocks class is_class in
    let only : HoldsOnly pool frame class = λ place other found there. absurd (bare place other found there) in
    let none : block_at (block_place frame class 0) pool ≡ None =
    elim (option_cases (block_at (block_place frame class 0) pool)) [
      | inl h ↦ h
      | inr some ↦
          absurd
          (bare (block_place frame class 0) some.0 some.1
          (ap frame_of (place-found (block_place frame class 0) pool some.0 some.1) ∙ frame_of-block_place frame class 0 in_frame))
    ] in
    record {
      frame = frame;
      index = 0;
      in_heap = below;
      in_frame = in_frame;
      is_place = refl;
      same_class = only;
      clear = clear-block g pool sound frame class 0 below in_frame only none;
    }

-- at most `most` numbers below a bound have a property that none of them has
pub at_most-none : (most bound : ℕ) (P : ℕ → Type 0) → ((k : ℕ) → k < bound → ¬ P k) → AtMost most bound P
at_most-none most bound P none [] increasing all = omega arith
at_most-none most bound P none (k ∷ ks) increasing all =
    let first : (k < bound) × P k = All-head (λ j. (j < bound) × P j) k ks all in absurd (none k first.0 first.1)

pub worn-full :
    (g : Geometry) (pool : Pool) → IsSoundPool g pool → (class : ℕ) → ((place : ℕ) → ¬ IsFreeBlock g pool class place) → IsWorn g pool class
worn-full g pool sound class full =
    at_most-none _ g.frames (IsPartUsed pool class) (λ frame below part. full _ (part_used-free g pool sound class frame below part))

pub crowded-full :
    (g : Geometry) (pool : Pool) → IsSoundPool g pool → (class : ℕ) → class < CLASSES → ((place : ℕ) → ¬ IsFreeBlock g pool class place)
    → IsCrowded g pool
crowded-full g pool sound class is_class full =
    at_most-none _ g.frames (IsBare pool) (λ frame below bare. full _ (bare-free g pool sound class frame is_class below bare))

-- no block is live at a free place
pub free-unlive :
    (g : Geometry) (pool : Pool) (class place : ℕ) (block : Block) → IsFreeBlock g pool class place → block_at place pool ≡ Some block → ⊥
free-unlive g pool class place block free found =
    apart-differ (block_span free.frame class free.index) (span_of block) (pow_pos (class + 1)) (omega arith)
    (free.clear place block found) (sym free.is_place ∙ sym (place-found place pool block found))
