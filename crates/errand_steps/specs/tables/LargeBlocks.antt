-- What is said of each point at a large block, a usable word or a shelf: who stands there and how far the call is, the event of its step, what the caller holds, remembers and expects, and how many steps are left.
use Rattle.std.specs.Prelude.{IsTrue, ℕ, Option, Some, None, false, List, [], ◌∷◌}
use Rattle.heap_geometry.specs.Place.{unit_place}
use Rattle.heap_geometry.specs.declared.need.Need.TheVariants as need
use Rattle.heap_geometry.specs.declared.need.Need.TheVariants.{Large}
use Rattle.packed_words.specs.Shelf.{shelf_word}
use Rattle.packed_words.specs.declared.shelf.ShelfWord.TheVariants as lies
use Rattle.word_table.specs.declared.name.WordName.TheVariants as name
use Rattle.step_parts.specs.large.Points.{first_wanted}
use Rattle.step_parts.specs.large.Runs.{WantFields}
use Rattle.step_parts.specs.declared.large.point.LargePoint.TheVariants as large
use Rattle.step_parts.specs.declared.large.point.LargePoint.{LargePoint}
use Rattle.pool_model.specs.declared.event.Event.TheVariants as event
use Rattle.pool_model.specs.declared.event.Event.{Event}
use Rattle.errand_steps.specs.Continuations.{IsRunFor, is_last}
use Rattle.errand_steps.specs.Points.{asked}
use Rattle.errand_steps.specs.declared.continuation.Continuation.{Continuation}
use Rattle.errand_steps.specs.tables.CallStage.{StageOfCall, asking_run, given, freeing, writing, reading, putting, taking}
use Rattle.errand_steps.specs.tables.Expected.{Expected, expect}
use Rattle.errand_steps.specs.tables.Holding.{Holding, nothing, run_handed, freed}
use Rattle.errand_steps.specs.tables.Recall.{Recall, owns, owns_all}

-- the continuations that stand at a point of a large block, a usable word or a shelf
abbrev pub GoesLarge : LargePoint → Continuation → Type 0
GoesLarge (large.LoadUnits w) o = IsRunFor w.units o
GoesLarge (large.TakeRun w bits) o = IsRunFor w.units o
GoesLarge (large.StoreRunPrefix place run) o = IsRunFor run.units o
GoesLarge p o = IsTrue (is_last o)

-- the event of a look for a run: it is given where there is one, else refused
abbrev pub run_event : ℕ → ℕ → WantFields → Option ℕ → Event
run_event caller need w None = event.Refuse caller need
run_event caller need w (Some first) = event.Alloc caller need (unit_place w.geometry.frames first)

abbrev pub large_event : ℕ → ℕ → LargePoint → Option Event
large_event caller need (large.TakeRun w bits) = Some (run_event caller need w (first_wanted w bits))
large_event caller need (large.FreeRun place run) = Some (event.Free caller place)
large_event caller need (large.StoreWord place i value) = Some (event.Write caller place i value)
large_event caller need (large.PutBlock shelf place block) = Some (event.Put caller place shelf)
large_event caller need (large.TakeBlock shelf place block) = Some (event.Take caller shelf place)
large_event caller need (large.ConfirmNothing shelf) = Some (event.TakeNone caller shelf)
large_event caller need p = None

-- the stage of a call at a point of a large block, a usable word or a shelf
abbrev pub large_stage : LargePoint → Continuation → StageOfCall
large_stage (large.LoadUnits w) o = asking_run (asked o) w.units
large_stage (large.TakeRun w bits) o = asking_run (asked o) w.units
large_stage (large.StoreRunPrefix place run) o = given place (Large run.units)
large_stage (large.LoadRunPrefix place run) o = freeing place (Large run.units)
large_stage (large.FreeRun place run) o = freeing place (Large run.units)
large_stage (large.StoreWord place i value) o = writing place i value
large_stage (large.LoadWord place i) o = reading place i
large_stage (large.PutBlock shelf place need) o = putting place need shelf
large_stage (large.LoadShelf shelf) o = taking shelf
large_stage (large.TakeBlock shelf place need) o = taking shelf
large_stage (large.ConfirmNothing shelf) o = taking shelf

-- what a caller holds at a large block
abbrev pub large_holds : LargePoint → Holding
large_holds (large.StoreRunPrefix place run) = record nothing { hands = run_handed place run.units }
large_holds (large.LoadRunPrefix place run) = record nothing { frees = freed place (need.Large run.units) false }
large_holds (large.FreeRun place run) = record nothing { frees = freed place (need.Large run.units) false }
large_holds p = nothing

-- what a caller remembers at a usable word or a shelf
abbrev pub large_recalls : LargePoint → List Recall
large_recalls (large.StoreWord place i value) = owns place i ∷ []
large_recalls (large.LoadWord place i) = owns place i ∷ []
large_recalls (large.PutBlock shelf place need) = owns_all place need ∷ []
large_recalls p = []

-- what a caller expects at a large block, a usable word or a shelf; a put has not seen the shelf
abbrev pub large_expects : LargePoint → List Expected
large_expects (large.TakeRun want bits) = expect name.Units bits []
large_expects (large.TakeBlock shelf place need) = expect (name.Shelf shelf) (shelf_word (lies.Block place need)) []
large_expects (large.ConfirmNothing shelf) = expect (name.Shelf shelf) (shelf_word lies.Nothing) []
large_expects p = []

-- the steps left at a large block, a usable word or a shelf
abbrev pub large_left : LargePoint → ℕ
large_left (large.LoadUnits want) = 3
large_left (large.TakeRun want bits) = 2
large_left (large.StoreRunPrefix place run) = 1
large_left (large.LoadRunPrefix place run) = 2
large_left (large.FreeRun place run) = 1
large_left (large.StoreWord place i value) = 1
large_left (large.LoadWord place i) = 1
large_left (large.PutBlock shelf place need) = 1
large_left (large.LoadShelf shelf) = 2
large_left (large.TakeBlock shelf place need) = 1
large_left (large.ConfirmNothing shelf) = 1
