-- What each point does, where it leads, and that what a point or an exit remembers exists in its heap.
use Rattle.std.specs.Prelude.{ℕ, Bool, true, false, Option, Some, None, ◌+◌, ◌%◌, ◌^◌, if◌then◌else◌, ◌≡◌, ◌<◌, ◌≤◌}
use Rattle.heap_geometry.specs.Place.{unit_place}
use Rattle.packed_words.specs.declared.prefix.Prefix.{Prefix}
use Rattle.packed_words.specs.declared.prefix.Prefix.TheVariants.{Small, Large}
use Rattle.packed_words.specs.declared.shelf.ShelfWord.{ShelfWord}
use Rattle.packed_words.specs.declared.shelf.ShelfWord.TheVariants.{Nothing, Block}
use Rattle.packed_words.specs.Prefix.{prefix_word, prefix_of}
use Rattle.packed_words.specs.Shelf.{shelf_word, shelf_of, IsShelfWord}
use Rattle.word_table.specs.declared.action.Action.{Action}
use Rattle.word_table.specs.declared.action.Action.TheVariants.{Load, Store, Cas, And}
use Rattle.word_table.specs.declared.action.Found.{Found}
use Rattle.word_table.specs.declared.name.WordName.{WordName}
use Rattle.word_table.specs.declared.name.WordName.TheVariants.{Arena, Units, Shelf}
use Rattle.word_table.specs.declared.onward.Onward.{Onward}
use Rattle.word_table.specs.declared.onward.Onward.TheVariants.{Stays, Leaves}
use Rattle.step_parts.specs.declared.large.exit.LargeExit.{LargeExit}
use Rattle.step_parts.specs.declared.large.exit.LargeExit.TheVariants.{GivenRun, NoRun, FreedRun, Wrote, Word, PutDone, ShelfFull, Got, NothingThere, Missed}
use Rattle.step_parts.specs.declared.large.point.LargePoint.{LargePoint}
use Rattle.step_parts.specs.declared.large.point.LargePoint.TheVariants.{LoadUnits, TakeRun, StoreRunPrefix, LoadRunPrefix, FreeRun, StoreWord, LoadWord, PutBlock, LoadShelf, TakeBlock, ConfirmNothing}
use Rattle.step_parts.specs.large.Runs.{WantFields, RunFields, IsRun}
use Rattle.step_parts.specs.large.Units.{first_run_of, other_bits, with_run}
use Rattle.heap_geometry.specs.declared.geometry.Geometry.{Geometry}
use Rattle.heap_geometry.specs.declared.limits.TheConstants.{MAX_UNITS, SHELVES}
use Rattle.heap_geometry.specs.declared.need.Need.{Need}
use Rattle.heap_geometry.specs.Geometry.{IsWithin}
use Rattle.word_table.specs.Counts.{arena_words}

-- the name of a usable word of the block at a place, whose prefix word stands before them
abbrev pub payload_name : ℕ → ℕ → WordName
payload_name place i = Arena ((place + 1 + i) % 2 ^ 32)

-- the first unit of the lowest free run of as many units as are wanted, where the heap has one
abbrev pub first_wanted : WantFields → ℕ → Option ℕ
first_wanted w bits = first_run_of bits w.geometry.units w.units

-- the units after a run is taken; where there is none they stay
abbrev pub units_taken : ℕ → ℕ → Option ℕ → ℕ
units_taken bits units None = bits
units_taken bits units (Some first) = with_run bits first units

-- the action of a point
abbrev pub plan_large_of : LargePoint → Action
plan_large_of (LoadUnits w) = Load Units
plan_large_of (TakeRun w bits) = Cas Units bits (units_taken bits w.units (first_wanted w bits))
plan_large_of (StoreRunPrefix place r) = Store (Arena place) (prefix_word (Large r.units))
plan_large_of (LoadRunPrefix place r) = Load (Arena place)
plan_large_of (FreeRun place r) = And Units (other_bits r.first r.units)
plan_large_of (StoreWord place i value) = Store (payload_name place i) value
plan_large_of (LoadWord place i) = Load (payload_name place i)
plan_large_of (PutBlock shelf place need) =
    Cas (Shelf shelf) (shelf_word Nothing) (shelf_word (Block place need))
plan_large_of (LoadShelf shelf) = Load (Shelf shelf)
plan_large_of (TakeBlock shelf place need) =
    Cas (Shelf shelf) (shelf_word (Block place need)) (shelf_word Nothing)
plan_large_of (ConfirmNothing shelf) = Cas (Shelf shelf) (shelf_word Nothing) (shelf_word Nothing)

-- the point or exit after a look for a run, by the run's first unit
abbrev pub after_take : WantFields → Option ℕ → Onward LargePoint LargeExit
after_take w None = Leaves NoRun
after_take w (Some first) =
    Stays (StoreRunPrefix (unit_place w.geometry.frames first) (record { first = first; units = w.units }))

-- the point after the prefix word of a freed run was read
abbrev pub after_run_prefix : ℕ → RunFields → Option Prefix → LargePoint
after_run_prefix place r None = LoadRunPrefix place r
after_run_prefix place r (Some (Small desc)) = LoadRunPrefix place r
after_run_prefix place r (Some (Large units)) = FreeRun place r

-- the point after a shelf's word was read
abbrev pub after_shelf : ℕ → Option ShelfWord → LargePoint
after_shelf shelf None = LoadShelf shelf
after_shelf shelf (Some Nothing) = ConfirmNothing shelf
after_shelf shelf (Some (Block place need)) = TakeBlock shelf place need

-- the point or exit after a step at a point of a large block, a usable word or a shelf, by what its action found
abbrev pub settle_large_of : LargePoint → Found → Onward LargePoint LargeExit
settle_large_of (LoadUnits w) x = Stays (TakeRun w x.value)
settle_large_of (TakeRun w bits) x = if x.won then after_take w (first_wanted w bits) else Stays (LoadUnits w)
settle_large_of (StoreRunPrefix place r) x = Leaves (GivenRun place r)
settle_large_of (LoadRunPrefix place r) x = Stays (after_run_prefix place r (prefix_of x.value))
settle_large_of (FreeRun place r) x = Leaves FreedRun
settle_large_of (StoreWord place i value) x = Leaves Wrote
settle_large_of (LoadWord place i) x = Leaves (Word x.value)
settle_large_of (PutBlock shelf place need) x = Leaves (if x.won then PutDone else ShelfFull x.value)
settle_large_of (LoadShelf shelf) x = Stays (after_shelf shelf (shelf_of x.value))
settle_large_of (TakeBlock shelf place need) x =
    Leaves (if x.won then Got place need else Missed (shelf_word (Block place need)) x.value)
settle_large_of (ConfirmNothing shelf) x =
    Leaves (if x.won then NothingThere else Missed (shelf_word Nothing) x.value)

-- the caller's step is on a usable word of a block
abbrev pub is_on_word : LargePoint → Bool
is_on_word (StoreWord place i value) = true
is_on_word (LoadWord place i) = true
is_on_word p = false

-- units of this heap are wanted
pub record IsWantOf (g : Geometry) (w : WantFields) : Type 0 where
  pub geometry : w.geometry ≡ g
  pub units : IsWithin 1 MAX_UNITS w.units

-- a run of this heap's units, which lies at the place
pub record IsRunAt (g : Geometry) (p : ℕ) (r : RunFields) : Type 0 where
  pub run : IsRun r
  pub within : r.first + r.units ≤ g.units
  pub place : p ≡ unit_place g.frames r.first

-- a usable word of the block at a place, and the arena has it
abbrev pub IsPayloadOf : Geometry → ℕ → ℕ → Type 0
IsPayloadOf g place i = place + 1 + i < arena_words g

-- a shelf, and a block that may lie on it
pub record IsShelved (k p : ℕ) (need : Need) : Type 0 where
  pub shelf : k < SHELVES
  pub block : IsShelfWord (Block p need)

-- everything that the point remembers exists in this heap
abbrev pub FitsLarge : Geometry → LargePoint → Type 0
FitsLarge g (LoadUnits w) = IsWantOf g w
FitsLarge g (TakeRun w bits) = IsWantOf g w
FitsLarge g (StoreRunPrefix place r) = IsRunAt g place r
FitsLarge g (LoadRunPrefix place r) = IsRunAt g place r
FitsLarge g (FreeRun place r) = IsRunAt g place r
FitsLarge g (StoreWord place i value) = IsPayloadOf g place i × (value < 2 ^ 64)
FitsLarge g (LoadWord place i) = IsPayloadOf g place i
FitsLarge g (PutBlock shelf place need) = IsShelved shelf place need
FitsLarge g (LoadShelf shelf) = shelf < SHELVES
FitsLarge g (TakeBlock shelf place need) = IsShelved shelf place need
FitsLarge g (ConfirmNothing shelf) = shelf < SHELVES

-- everything that the exit remembers exists in this heap
abbrev pub FitsLargeExit : Geometry → LargeExit → Type 0
FitsLargeExit g (GivenRun place r) = IsRunAt g place r
FitsLargeExit g NoRun = Unit {0}
FitsLargeExit g FreedRun = Unit {0}
FitsLargeExit g Wrote = Unit {0}
FitsLargeExit g (Word value) = Unit {0}
FitsLargeExit g PutDone = Unit {0}
FitsLargeExit g (ShelfFull found) = Unit {0}
FitsLargeExit g (Got place need) = IsShelfWord (Block place need)
FitsLargeExit g NothingThere = Unit {0}
FitsLargeExit g (Missed expected found) = Unit {0}
