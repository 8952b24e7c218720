-- What is put on shelves and taken from them: each time the place of the block, and what it contains then.
use Rattle.std.specs.Prelude.{ℕ, ◌==◌, ◌++◌, ◌∷◌, List, [], Bool, false, Option, Some, None, if◌then◌else◌}
use Rattle.pool_model.specs.declared.event.Event.{Event}
use Rattle.pool_model.specs.declared.event.Event.TheVariants.{Put, Take}
use Rattle.pool_model.specs.declared.owner.Owner.{Owner}
use Rattle.pool_model.specs.declared.owner.Owner.TheVariants.{Caller, Shelf}
use Rattle.pool_model.specs.Pool.{Block, Pool, block_at, pool_after}

-- a block on its way: where it lies, and what each usable word holds, where it was written
pub record Parcel : Type 0 where
  pub place : ℕ
  pub contents : List (Option ℕ)

abbrev pub parcel_of : Block → Parcel
parcel_of block = record { place = block.place; contents = block.contents }

abbrev pub parcels_in : Option Block → List Parcel
parcels_in None = []
parcels_in (Some block) = parcel_of block ∷ []

-- the block that an event hands over, in the pool before it
abbrev pub handed : Pool → Event → List Parcel
handed pool (Put caller place shelf) = parcels_in (block_at place pool)
handed pool (Take caller shelf place) = parcels_in (block_at place pool)
handed pool event = []

-- the parcels that the chosen ones of a list of events hand over, in their order, from a pool on
abbrev pub parcels_from : (Event → Bool) → Pool → List Event → List Parcel
parcels_from chosen pool [] = []
parcels_from chosen pool (event ∷ events) =
    (if chosen event then handed pool event else []) ++ parcels_from chosen (pool_after pool event) events

abbrev pub parcels : (Event → Bool) → List Event → List Parcel
parcels chosen history = parcels_from chosen [] history

-- tests of an event: it puts a block on the shelf; it takes one off the shelf
abbrev pub is_put_on : ℕ → Event → Bool
is_put_on shelf (Put caller place at) = at == shelf
is_put_on shelf event = false

abbrev pub is_take_off : ℕ → Event → Bool
is_take_off shelf (Take caller at place) = at == shelf
is_take_off shelf event = false

-- the parcels that were put on a shelf; those that were taken off it
abbrev pub puts_on : ℕ → List Event → List Parcel
puts_on shelf history = parcels (is_put_on shelf) history

abbrev pub takes_off : ℕ → List Event → List Parcel
takes_off shelf history = parcels (is_take_off shelf) history

-- the owner is this shelf
abbrev pub is_shelf : ℕ → Owner → Bool
is_shelf shelf (Caller caller) = false
is_shelf shelf (Shelf at) = at == shelf

-- the parcels that lie on a shelf
abbrev pub lying_on : ℕ → Pool → List Parcel
lying_on shelf [] = []
lying_on shelf (block ∷ pool) = if is_shelf shelf block.owner then parcel_of block ∷ lying_on shelf pool else lying_on shelf pool
