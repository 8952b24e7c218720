-- Where a block lies, from its place.
use Rattle.std.proofs.Common.{ℕ, ◌≡◌, ◌<◌, ◌∙◌, sym, ap, refl}
use Rattle.heap_geometry.specs.Need.{block_count_of}
use Rattle.heap_geometry.specs.Place.{block_place, frame_of, index_of}
use Rattle.heap_geometry.specs.declared.need.Need.TheVariants.{Small}
use Rattle.step_parts.specs.declared.superblock.point.BlockPoint.TheVariants.{LoadPrefix}
use Rattle.errand_steps.specs.declared.continuation.Continuation.TheVariants.{Free}
use Rattle.errand_steps.specs.declared.point.Point.TheVariants.{Block}
use Rattle.errand_steps.specs.Begins.{seat_of, free_begun}
use Rattle.errand_steps.specs.Errands.{ErrandFields}
use Rattle.heap_geometry.proofs.PlaceLemmas.{frame_of-block_place, index_of-block_place}

-- the frame of a block's place
pub frame_is : (frame class index place : ℕ) → index < block_count_of class → block_place frame class index ≡ place → frame_of place ≡ frame
frame_is frame class index place within is = ap frame_of (sym is) ∙ frame_of-block_place frame class index within

-- the index of the block at a place in its frame
pub index_is : (frame class index place : ℕ) → index < block_count_of class → block_place frame class index ≡ place → index_of class place ≡ index
index_is frame class index place within is = ap (index_of class) (sym is) ∙ index_of-block_place frame class index within

-- the free of a small block begins at its frame and its index
pub free_small :
    (e : ErrandFields) (place class f i : ℕ) → i < block_count_of class → block_place f class i ≡ place
    → record e { point = Block (LoadPrefix (seat_of e class) f i) Free } ≡ free_begun e place (Small class)
unfolding free_begun
free_small e place class f i within is = rw (frame_is f class i place within is, index_is f class i place within is) refl
