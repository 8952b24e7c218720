-- The blocks that a plain pool stores, by their places.
use Rattle.std.specs.Prelude.{ℕ, ◌≡◌, ◌≢◌, List, Option, Some}
use Rattle.std.specs.Option.{option_map}
use Rattle.std.specs.Ordering.{nat_cmp}
use Rattle.std.specs.BTreeMap.{BTreeMap, get}
use Rattle.heap_geometry.specs.declared.geometry.Geometry.{Geometry}
use Rattle.heap_geometry.specs.Geometry.{IsChecked}
use Rattle.heap_geometry.specs.Place.{frame_of}
use Rattle.pool_model.specs.declared.event.Event.{Event}
use Rattle.plain_pool.specs.declared.live_block.LiveBlock.{LiveBlock}
use Rattle.pool_model.specs.Pool.{Block, block_at, pool_of}
use Rattle.pool_model.specs.Legal.{IsLegal}

-- a stored block, with its place
abbrev pub block_of : ℕ → LiveBlock → Block
block_of place block = record { place = place; need = block.need; owner = block.owner; contents = block.words.items }

-- a block is stored at the place
abbrev pub IsStored : BTreeMap ℕ LiveBlock → ℕ → LiveBlock → Type 0
IsStored blocks place block = get nat_cmp blocks place ≡ Some block

-- the block that is stored at a place, if there is one
abbrev pub stored_at : BTreeMap ℕ LiveBlock → ℕ → Option Block
stored_at blocks place = option_map (block_of place) (get nat_cmp blocks place)

-- the stored blocks are the live blocks of the events
abbrev pub IsPoolOf : BTreeMap ℕ LiveBlock → List Event → Type 0
IsPoolOf blocks events = (place : ℕ) → stored_at blocks place ≡ block_at place (pool_of events)

-- at the place the new map has just this block, if any, and at every other place what the old map has
pub record Replaces (old new : BTreeMap ℕ LiveBlock) (place : ℕ) (after : Option Block) : Type 0 where
  pub here : stored_at new place ≡ after
  pub others : (other : ℕ) → other ≢ place → stored_at new other ≡ stored_at old other

-- what a plain pool keeps: numbers in range, legal events, and stored blocks that are the live blocks of the events
pub record IsPlainKept (g : Geometry) (blocks : BTreeMap ℕ LiveBlock) (events : List Event) : Type 0 where
  pub checked : IsChecked g
  pub legal : IsLegal g events
  pub stored : IsPoolOf blocks events

-- a stored block lies in the frame
abbrev pub HoldsStored : BTreeMap ℕ LiveBlock → ℕ → Type 0
HoldsStored blocks frame = (place : ℕ) × (block : LiveBlock) × IsStored blocks place block × (frame_of place ≡ frame)
