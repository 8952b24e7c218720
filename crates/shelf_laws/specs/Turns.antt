-- Which put a take answers.
use Rattle.std.specs.Prelude.{ℕ, ◌≡◌, List, ◌∷◌, ◌++◌, Some, count_by}
use Rattle.pool_model.specs.declared.event.Event.{Event}
use Rattle.pool_model.specs.declared.event.Event.TheVariants.{Put}
use Rattle.pool_model.specs.declared.owner.Owner.TheVariants.{Shelf}
use Rattle.pool_model.specs.Pool.{Block, block_at, handed_to, pool_of}
use Rattle.pool_model.specs.Parcels.{is_put_on, is_take_off}

-- the block came to the place on the shelf by a put before which as many blocks had been put there as the history has taken
-- off; but for its owner it is as it was then
pub record IsPutInTurn (history : List Event) (shelf place : ℕ) (block : Block) : Type 0 where
  pub caller : ℕ
  pub before : List Event
  pub rest : List Event
  pub put : history ≡ before ++ Put caller place shelf ∷ rest
  pub turn : count_by (is_put_on shelf) before ≡ count_by (is_take_off shelf) history
  pub was : Block
  pub found : block_at place (pool_of before) ≡ Some was
  pub same : block ≡ handed_to (Shelf shelf) was
