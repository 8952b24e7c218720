-- Searches among stored blocks.
use Rattle.std.specs.Prelude.{slice_index_or, replicate}
use Rattle.std.proofs.lemmas.Bool.{cases_lt, false≢true}
use Rattle.std.proofs.Common.{ℕ, zero, suc, Bool, false, ◌≡◌, ◌+◌, ◌<◌, ◌≤◌, ◌⊎◌, List, Option, Some, None, IsSome, refl, sym, ◌∙◌, ap, subst, inl, inr, arith}
use Rattle.std.specs.Option.{IsSomeAnd, IfSome, IfNone}
use Rattle.std.specs.Ordering.{nat_cmp}
use Rattle.std.specs.BTreeMap.{BTreeMap, get}
use Rattle.std.proofs.lemmas.Nat.{pow_pos}
use Rattle.heap_geometry.specs.declared.limits.TheConstants.{MAX_UNITS}
use Rattle.heap_geometry.specs.declared.need.Need.{Need}
use Rattle.heap_geometry.specs.declared.need.Need.TheVariants.{Small, Large, TooLarge}
use Rattle.heap_geometry.specs.Need.{block_count_of, block_words_of}
use Rattle.heap_geometry.specs.Place.{block_place, unit_place, frame_of, index_of}
use Rattle.heap_geometry.proofs.PlaceLemmas.{frame_of-block_place, index_of-block_place}
use Rattle.plain_pool.specs.declared.live_block.LiveBlock.{LiveBlock}
use Rattle.plain_pool.specs.Stored.{IsStored}
use Rattle.plain_pool.specs.Plain.{IsLeast}
use Rattle.plain_pool.specs.Search.{HoldsOneClass, IsOpenBeside, Reaches, ReachesAround, IsOpenIn, IsWithinUnits, IsRunOf, TakesUnit, IsMarked}

pub reaches-higher :
    (blocks : BTreeMap ℕ LiveBlock) (least : Option ℕ) (low high : ℕ) → low ≤ high → IsSomeAnd least (λ found. found ≤ low)
    → IsSomeAnd least (λ found. found ≤ high)
reaches-higher blocks None low high le reached = reached
reaches-higher blocks (Some found) low high le reached = omega arith

-- a lower least place reaches what the least place before it reached
pub reaches-lower :
    (blocks : BTreeMap ℕ LiveBlock) (before after : Option ℕ) (place : ℕ) → IfSome before (λ b. IsSomeAnd after (λ found. found ≤ b))
    → Reaches blocks before place → Reaches blocks after place
reaches-lower blocks None after place lower (inl stored) = inl stored
reaches-lower blocks None after place lower (inr reached) = absurd reached
reaches-lower blocks (Some b) after place lower (inl stored) = inl stored
reaches-lower blocks (Some b) after place lower (inr reached) = inr (reaches-higher blocks after b place reached lower)

pub around-lower :
    (blocks : BTreeMap ℕ LiveBlock) (before after : Option ℕ) (class place : ℕ)
    → IfSome before (λ b. IsSomeAnd after (λ found. found ≤ b)) → ReachesAround blocks before class place
    → ReachesAround blocks after class place
around-lower blocks before after class place lower around =
    record {
      first = reaches-lower blocks before after (block_place (frame_of place) class 0) lower around.first;
      behind =
          λ below. reaches-lower blocks before after (block_place (frame_of place) class (index_of class place + 1)) lower
          (around.behind below);
    }

pub some-from : (o : Option LiveBlock) → IsSome o → (block : LiveBlock) × (o ≡ Some block)
some-from None none = absurd (cc)
some-from (Some block) some = (block, refl)

-- every place of a frame that holds the class is reached, from the first one on
pub frame-reached :
    (blocks : BTreeMap ℕ LiveBlock) (least : Option ℕ) (class frame other : ℕ) (block : LiveBlock) → HoldsOneClass blocks class
    → ((place : ℕ) (b : LiveBlock) → IsStored blocks place b → b.need ≡ Small class → ReachesAround blocks least class place)
    → IsStored blocks other block → block.need ≡ Small class → frame_of other ≡ frame
    → (index : ℕ) → index < block_count_of class → Reaches blocks least (block_place frame class index)
frame-reached blocks least class frame other block one around stored same here zero below =
    let first = (around other block stored same).first in
    subst (λ (f : ℕ). Reaches blocks least (block_place f class 0)) here first
frame-reached blocks least class frame other block one around stored same here (suc index) below =
    let in_frame : index < block_count_of class = omega arith in
    let words : 0 < block_words_of class = pow_pos (class + 1) in
    let low : block_place frame class index ≤ block_place frame class (suc index) = omega arith in
    elim (frame-reached blocks least class frame other block one around stored same here index in_frame) [
      | inr reached ↦ inr (reaches-higher blocks least (block_place frame class index) (block_place frame class (suc index)) low reached)
      | inl some ↦
          let before = some-from (get nat_cmp blocks (block_place frame class index)) some in
          let its_frame : frame_of (block_place frame class index) ≡ frame = frame_of-block_place frame class index in_frame in
          let its_index : index_of class (block_place frame class index) ≡ index = index_of-block_place frame class index in_frame in
          let its_class : before.0.need ≡ Small class =
          one other (block_place frame class index) block before.0 stored before.1 same (here ∙ sym its_frame) in
          let within : index_of class (block_place frame class index) + 1 < block_count_of class = omega arith in
          let behind = (around (block_place frame class index) before.0 before.1 its_class).behind within in
          let next : index_of class (block_place frame class index) + 1 ≡ suc index = omega arith in
          subst (λ (i : ℕ). Reaches blocks least (block_place frame class i)) next
          (subst (λ (f : ℕ). Reaches blocks least (block_place f class (index_of class (block_place frame class index) + 1))) its_frame behind)
    ]

-- every open place beside a block of the class is reached
pub beside-reached :
    (blocks : BTreeMap ℕ LiveBlock) (least : Option ℕ) (class : ℕ) → HoldsOneClass blocks class
    → ((place : ℕ) (b : LiveBlock) → IsStored blocks place b → b.need ≡ Small class → ReachesAround blocks least class place)
    → (place : ℕ) → IsOpenBeside blocks class place → IsSomeAnd least (λ found. found ≤ place)
beside-reached blocks least class one around place spot =
    elim (frame-reached blocks least class spot.frame spot.other spot.block one around spot.stored spot.same_class spot.same_frame
    spot.index spot.in_frame) [
      | inl some ↦
          let stored = some-from (get nat_cmp blocks (block_place spot.frame class spot.index)) some in
          let none : get nat_cmp blocks (block_place spot.frame class spot.index) ≡ None =
          ap (get nat_cmp blocks) (sym spot.is_place) ∙ spot.unstored in
          absurd (let e : None ≡ Some stored.0 = sym none ∙ stored.1 in cc)
      | inr reached ↦ subst (λ (p : ℕ). IsSomeAnd least (λ found. found ≤ p)) (sym spot.is_place) reached
    ]

pub least-beside :
    (blocks : BTreeMap ℕ LiveBlock) (least : Option ℕ) (class : ℕ)
    → ((place : ℕ) → IsOpenBeside blocks class place → IsSomeAnd least (λ found. found ≤ place)) → IfSome least (IsOpenBeside blocks class)
    → IfSome least (IsLeast (IsOpenBeside blocks class))
least-beside blocks None class reached spot = tt
least-beside blocks (Some found) class reached spot = record { holds = spot; least = λ place at. reached place at }

pub none-beside :
    (blocks : BTreeMap ℕ LiveBlock) (least : Option ℕ) (class : ℕ)
    → ((place : ℕ) → IsOpenBeside blocks class place → IsSomeAnd least (λ found. found ≤ place))
    → IfNone least ((place : ℕ) → ¬ IsOpenBeside blocks class place)
none-beside blocks None class reached = λ place spot. reached place spot
none-beside blocks (Some found) class reached = tt

-- an open place in the frame of a block of the class is open beside it
pub open-beside :
    (blocks : BTreeMap ℕ LiveBlock) (class other place : ℕ) (block : LiveBlock) → IsStored blocks other block → block.need ≡ Small class
    → IsOpenIn blocks class (frame_of other) place → IsOpenBeside blocks class place
open-beside blocks class other place block stored same spot =
    record {
      frame = frame_of other;
      index = spot.0;
      in_frame = spot.1;
      is_place = spot.2;
      unstored = spot.3;
      other = other;
      block = block;
      stored = stored;
      same_class = same;
      same_frame = refl;
    }

-- the units of a run are marked
abbrev pub MarksRun : ℕ → List Bool → ℕ → LiveBlock → Type 0
MarksRun frames taken place block =
    (units first unit : ℕ) → block.need ≡ Large units → place ≡ unit_place frames first → first ≤ unit → unit < first + units
    → IsMarked taken unit

-- no number of fresh marks is marked
pub unmarked-fresh : (n k : ℕ) → ¬ IsMarked (replicate n false) k
unmarked-fresh zero k marked = absurd (false≢true marked)
unmarked-fresh (suc n) zero marked = absurd (false≢true marked)
unmarked-fresh (suc n) (suc k) marked = unmarked-fresh n k marked

-- the run of a stored block lies within the units
pub run-within :
    (frames : ℕ) (need : Need) (place : ℕ) (run : ℕ × ℕ) → IsRunOf frames need place run
    → ((units : ℕ) → need ≡ Large units → (unit : ℕ) × (unit + units ≤ MAX_UNITS) × (place ≡ unit_place frames unit))
    → run.0 + run.1 ≤ MAX_UNITS
run-within frames (Small class) place run is within = let zero_run : run ≡ (0, 0) = is in rw zero_run (omega arith)
run-within frames (Large units) place run is within =
    let placed = within units refl in
    let first : run.0 ≡ placed.0 = is.1 placed.0 placed.2 in
    let count : run.1 ≡ units = is.0 in
    omega arith
run-within frames TooLarge place run is within = let zero_run : run ≡ (0, 0) = is in rw zero_run (omega arith)

-- a unit of the run of a stored block is taken
pub run-takes :
    (blocks : BTreeMap ℕ LiveBlock) (frames place unit : ℕ) (block : LiveBlock) (need : Need) (run : ℕ × ℕ) → block.need ≡ need
    → IsRunOf frames need place run → IsWithinUnits blocks frames → IsStored blocks place block → run.0 ≤ unit → unit < run.0 + run.1
    → TakesUnit blocks frames unit
run-takes blocks frames place unit block (Small class) run same is within stored from before =
    let none : run.1 ≡ 0 = ap (λ (r : ℕ × ℕ). r.1) is in absurd (omega arith)
run-takes blocks frames place unit block (Large units) run same is within stored from before =
    let placed = within place block units stored same in
    let first : run.0 ≡ placed.0 = is.1 placed.0 placed.2 in
    let count : run.1 ≡ units = is.0 in
    record {
      first = placed.0;
      units = units;
      block = block;
      stored = subst (λ (p : ℕ). IsStored blocks p block) placed.2 stored;
      large = same;
      from = omega arith;
      before = omega arith;
    }
run-takes blocks frames place unit block TooLarge run same is within stored from before =
    let none : run.1 ≡ 0 = ap (λ (r : ℕ × ℕ). r.1) is in absurd (omega arith)

-- marking a block's run marks its units
pub run-marks :
    (frames place : ℕ) (taken : List Bool) (block : LiveBlock) (run : ℕ × ℕ) → IsRunOf frames block.need place run
    → ((k : ℕ) → run.0 ≤ k → k < run.0 + run.1 → IsMarked taken k) → MarksRun frames taken place block
run-marks frames place taken block run is inside units first unit same at from before =
    let large : (run.1 ≡ units) × ((u : ℕ) → place ≡ unit_place frames u → run.0 ≡ u) =
    subst (λ (n : Need). IsRunOf frames n place run) same is in
    let first_is : run.0 ≡ first = large.1 first at in
    let count : run.1 ≡ units = large.0 in
    inside unit (omega arith) (omega arith)

-- a number that was marked stays so, and one that wasn't is now only within the run
pub mark-keeps :
    (old new : List Bool) (first count : ℕ) → ((k : ℕ) → first ≤ k → k < first + count → IsMarked new k)
    → ((k : ℕ) → k < first → slice_index_or new k false ≡ slice_index_or old k false)
    → ((k : ℕ) → first + count ≤ k → slice_index_or new k false ≡ slice_index_or old k false)
    → (k : ℕ) → IsMarked old k → IsMarked new k
mark-keeps old new first count inside below above k marked =
    elim (cases_lt k first) [
      | inl under ↦ below k under ∙ marked
      | inr from ↦ elim (cases_lt k (first + count)) [ inl within ↦ inside k from within | inr over ↦ above k over ∙ marked ]
    ]

pub mark-only :
    (old new : List Bool) (first count : ℕ) → ((k : ℕ) → k < first → slice_index_or new k false ≡ slice_index_or old k false)
    → ((k : ℕ) → first + count ≤ k → slice_index_or new k false ≡ slice_index_or old k false)
    → (k : ℕ) → IsMarked new k → IsMarked old k ⊎ ((first ≤ k) × (k < first + count))
mark-only old new first count below above k marked =
    elim (cases_lt k first) [
      | inl under ↦ inl (sym (below k under) ∙ marked)
      | inr from ↦
          elim (cases_lt k (first + count)) [ inl within ↦ inr (from, within) | inr over ↦ inl (sym (above k over) ∙ marked) ]
    ]

-- a least place is open beside a block, if it was the least before or is open in the frame of a block of the class
pub spot-more :
    (blocks : BTreeMap ℕ LiveBlock) (before after : Option ℕ) (class place : ℕ) (block : LiveBlock) → IsStored blocks place block
    → IfSome before (IsOpenBeside blocks class)
    → IfSome after (λ found. (before ≡ Some found) ⊎ ((block.need ≡ Small class) × IsOpenIn blocks class (frame_of place) found))
    → IfSome after (IsOpenBeside blocks class)
spot-more blocks before None class place block stored was from = tt
spot-more blocks before (Some found) class place block stored was (inl same) =
    subst (λ (o : Option ℕ). IfSome o (IsOpenBeside blocks class)) same was
spot-more blocks before (Some found) class place block stored was (inr new) = open-beside blocks class place found block stored new.0 new.1
