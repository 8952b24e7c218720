-- What every live block of a legal history is.
use Rattle.std.specs.Prelude.{ℕ, ◌+◌, ◌<◌, ◌≤◌, ◌≡◌, ◌≢◌, ◌↔◌, length}
use Rattle.heap_geometry.specs.declared.geometry.Geometry.{Geometry}
use Rattle.heap_geometry.specs.declared.limits.TheConstants.{SHELVES}
use Rattle.heap_geometry.specs.declared.need.Need.{Need}
use Rattle.heap_geometry.specs.declared.need.Need.TheVariants.{Small, Large, TooLarge}
use Rattle.heap_geometry.specs.Need.{IsNeed, usable_words, block_count_of}
use Rattle.heap_geometry.specs.Place.{IsApart, block_place, unit_place, frame_of}
use Rattle.pool_model.specs.declared.owner.Owner.{Owner}
use Rattle.pool_model.specs.declared.owner.Owner.TheVariants.{Caller, Shelf}
use Rattle.pool_model.specs.Pool.{Block, span_of}

-- the owner exists: it is a caller of the heap, or a shelf
abbrev pub IsOwner : Geometry → Owner → Type 0
IsOwner g (Caller caller) = caller < g.callers
IsOwner g (Shelf shelf) = shelf < SHELVES

-- the place is one of this heap's places for blocks of the need
abbrev pub IsPlaceFor : Geometry → Need → ℕ → Type 0
IsPlaceFor g (Small class) place =
    (frame : ℕ) × (index : ℕ) × (frame < g.frames) × (index < block_count_of class) × (place ≡ block_place frame class index)
IsPlaceFor g (Large units) place = (unit : ℕ) × (unit + units ≤ g.units) × (place ≡ unit_place g.frames unit)
IsPlaceFor g TooLarge place = ⊥

-- a block of this heap: its need is in range, its place and its words are those of the need, and its owner exists
pub record IsWellFormed (g : Geometry) (block : Block) : Type 0 where
  pub need : IsNeed block.need
  pub place : IsPlaceFor g block.need block.place
  pub owner : IsOwner g block.owner
  pub full : length block.contents ≡ usable_words block.need

-- two live blocks: they have no word in common, don't lie on one shelf, and are of one class where they lie in one frame
pub record IsSeparate (a b : Block) : Type 0 where
  pub apart : IsApart (span_of a) (span_of b)
  pub shelves : (shelf : ℕ) → a.owner ≡ Shelf shelf → b.owner ≢ Shelf shelf
  pub classes : (class : ℕ) → frame_of a.place ≡ frame_of b.place → (a.need ≡ Small class) ↔ (b.need ≡ Small class)
