-- How each call begins.
use Rattle.std.specs.Prelude.{ℕ, ◌≡◌, true, false, if◌then◌else◌}
use Rattle.heap_geometry.specs.declared.geometry.Geometry.{Geometry}
use Rattle.heap_geometry.specs.declared.need.Need.{Need}
use Rattle.heap_geometry.specs.declared.need.Need.TheVariants.{Small, Large, TooLarge}
use Rattle.heap_geometry.specs.Need.{IsNeed, need_of}
use Rattle.heap_geometry.specs.Place.{frame_of, index_of, unit_of}
use Rattle.pool_model.specs.WellFormed.{IsPlaceFor}
use Rattle.word_table.specs.Seats.{SeatFields}
use Rattle.step_parts.specs.declared.superblock.point.BlockPoint.TheVariants.{LoadActive, LoadPrefix}
use Rattle.step_parts.specs.declared.large.point.LargePoint.TheVariants.{LoadUnits, LoadRunPrefix, StoreWord, LoadWord, PutBlock, LoadShelf}
use Rattle.errand_steps.specs.declared.continuation.Continuation.TheVariants.{Alloc, Free, Nothing}
use Rattle.errand_steps.specs.declared.point.Point.{Point}
use Rattle.errand_steps.specs.declared.point.Point.TheVariants as point
use Rattle.errand_steps.specs.declared.reply.Begun.{Begun}
use Rattle.errand_steps.specs.declared.reply.Begun.TheVariants as begun
use Rattle.errand_steps.specs.Errands.{ErrandFields, is_spent, one_more}
use Rattle.errand_steps.specs.Points.{is_idle}

-- the caller is in no call; the caller is in one
abbrev pub IsIdle : ErrandFields → Type 0
IsIdle e = is_idle e.point ≡ true

abbrev pub IsBusy : ErrandFields → Type 0
IsBusy e = is_idle e.point ≡ false

-- a block of this heap, live or not, lies at the place
abbrev pub IsHeapBlock : Geometry → ℕ → Need → Type 0
IsHeapBlock g place need = IsNeed need × IsPlaceFor g need place

-- the caller at work on blocks of a class
abbrev pub seat_of : ErrandFields → ℕ → SeatFields
seat_of e class = record { geometry = e.geometry; caller = e.caller; class = class }

-- an allocation of so many usable words begins; a small one takes a turn
abbrev pub begins_alloc : ErrandFields → ℕ → Need → ErrandFields
begins_alloc e words (Small class) =
    if is_spent e
    then e
    else record e { point = point.Block (LoadActive (seat_of e class)) (Alloc words); turns = one_more e.turns }
begins_alloc e words (Large units) =
    record e { point = point.Large (LoadUnits (record { geometry = e.geometry; units = units })) (Alloc words) }
begins_alloc e words TooLarge = e

unfoldable pub alloc_begun : ErrandFields → ℕ → ErrandFields
alloc_begun e words = begins_alloc e words (need_of words)

-- the answer with which an allocation of a need begins, or doesn't
abbrev pub begins_with : ErrandFields → Need → Begun
begins_with e (Small class) = if is_spent e then begun.Spent else begun.Started
begins_with e (Large units) = begun.Started
begins_with e TooLarge = begun.TooLarge

abbrev pub alloc_answer : ErrandFields → ℕ → Begun
alloc_answer e words = begins_with e (need_of words)

-- the point at which the free of a block begins
abbrev pub free_point : ErrandFields → ℕ → Need → Point
free_point e place (Small class) = point.Block (LoadPrefix (seat_of e class) (frame_of place) (index_of class place)) Free
free_point e place (Large units) =
    point.Large (LoadRunPrefix place (record { first = unit_of e.geometry.frames place; units = units })) Nothing
free_point e place TooLarge = e.point

unfoldable pub free_begun : ErrandFields → ℕ → Need → ErrandFields
free_begun e place need = record e { point = free_point e place need }

-- a write, a read, a put and a take begin
unfoldable pub write_begun : ErrandFields → ℕ → ℕ → ℕ → ErrandFields
write_begun e place i v = record e { point = point.Large (StoreWord place i v) Nothing }

unfoldable pub read_begun : ErrandFields → ℕ → ℕ → ErrandFields
read_begun e place i = record e { point = point.Large (LoadWord place i) Nothing }

unfoldable pub put_begun : ErrandFields → ℕ → Need → ℕ → ErrandFields
put_begun e place need shelf = record e { point = point.Large (PutBlock shelf place need) Nothing }

unfoldable pub take_begun : ErrandFields → ℕ → ErrandFields
take_begun e shelf = record e { point = point.Large (LoadShelf shelf) Nothing }
