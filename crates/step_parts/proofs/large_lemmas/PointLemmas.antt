-- Of every point: what it remembers exists in its heap before and after its step.
use Rattle.std.proofs.Common.{ℕ, ◌≡◌, ◌^◌, ◌<◌, Option, Some, None, arith, ap, refl, ◌∙◌, eq-eqb}
use Rattle.std.specs.Prelude.{◌==◌}
use Rattle.std.proofs.lemmas.Bool.{cond-true, cond_both}
use Rattle.heap_geometry.specs.declared.geometry.Geometry.{Geometry}
use Rattle.heap_geometry.specs.Geometry.{IsChecked}
use Rattle.heap_geometry.specs.Place.{unit_place}
use Rattle.packed_words.specs.declared.prefix.Prefix.{Prefix}
use Rattle.packed_words.specs.declared.prefix.Prefix.TheVariants.{Small, Large}
use Rattle.packed_words.specs.declared.shelf.ShelfWord.{ShelfWord}
use Rattle.packed_words.specs.declared.shelf.ShelfWord.TheVariants.{Nothing, Block}
use Rattle.packed_words.specs.Fields.{Reads}
use Rattle.packed_words.specs.Prefix.{prefix_of}
use Rattle.packed_words.specs.Shelf.{IsShelfWord, shelf_word, shelf_of}
use Rattle.packed_words.proofs.ShelfLemmas.{shelf-exact}
use Rattle.word_table.specs.declared.action.Found.{Found}
use Rattle.word_table.specs.declared.onward.Onward.{Onward}
use Rattle.word_table.specs.declared.onward.Onward.TheVariants.{Stays}
use Rattle.word_table.specs.Actions.{after_action, name_of}
use Rattle.word_table.specs.Counts.{arena_words}
use Rattle.word_table.specs.Onwards.{IsOnward}
use Rattle.word_table.specs.Table.{Exists}
use Rattle.step_parts.specs.declared.large.exit.LargeExit.{LargeExit}
use Rattle.step_parts.specs.declared.large.point.LargePoint.{LargePoint}
use Rattle.step_parts.specs.declared.large.point.LargePoint.TheVariants.{LoadUnits, TakeRun, LoadRunPrefix, LoadShelf}
use Rattle.step_parts.specs.large.Points.{IsWantOf, IsRunAt, IsPayloadOf, FitsLarge, FitsLargeExit, plan_large_of, settle_large_of, payload_name, first_wanted, units_taken, after_take, after_run_prefix, after_shelf}
use Rattle.step_parts.specs.large.Runs.{WantFields, RunFields}
use Rattle.step_parts.specs.large.Units.{IsFirstRun, with_run}
use Rattle.step_parts.proofs.large_lemmas.LowestLemmas.{first_run-exact}

-- the prefix word of a heap's run exists
run-exists : (g : Geometry) (p : ℕ) (r : RunFields) → IsRunAt g p r → p < arena_words g
run-exists g p r h = omega (arith, h.place, h.within, h.run.some)

-- a usable word of a block that the arena has exists
payload-exists : (g : Geometry) (p i : ℕ) → IsChecked g → IsPayloadOf g p i → Exists g (payload_name p i)
payload-exists g p i checked h = omega (arith, h, checked.frames.1, checked.units.1)

-- the word that a point's action is on exists
pub plan-exists : (g : Geometry) (p : LargePoint) → IsChecked g → FitsLarge g p → Exists g (name_of (plan_large_of p))
plan-exists g p checked h = grind (arith, h, run-exists g, payload-exists g)

-- the step that takes the first free run leaves the word with that run
pub take-step :
    (w : WantFields) (bits first : ℕ) → first_wanted w bits ≡ Some first
    → after_action (plan_large_of (TakeRun w bits)) bits ≡ with_run bits first w.units
take-step w bits first e =
    cond-true (bits == bits) (units_taken bits w.units (first_wanted w bits)) bits (eq-eqb bits bits refl)
    ∙ ap (units_taken bits w.units) e

-- everything exists in the heap that the point or exit remembers to which a step leads
abbrev Fits : Geometry → Onward LargePoint LargeExit → Type 0
Fits g = IsOnward (FitsLarge g) (FitsLargeExit g)

-- the exit or point after a look for a run fits
fits-take :
    (g : Geometry) (w : WantFields) (bits : ℕ) (o : Option ℕ) → IsChecked g → IsWantOf g w
    → IsFirstRun bits w.geometry.units w.units o → Fits g (after_take w o)
fits-take g w bits None checked h first = tt
fits-take g w bits (Some first) checked h found =
    let units : w.geometry.units ≡ g.units = ap (λ x. x.units) h.geometry in
    let frames : w.geometry.frames ≡ g.frames = ap (λ x. x.frames) h.geometry in
    record {
      run = record { some = h.units.0; within = omega (arith, found.within, units, checked.units.1) };
      within = omega (arith, found.within, units);
      place = ap (λ n. unit_place n first) frames;
    }

-- the point after the prefix word of a freed run was read fits
fits-run_prefix :
    (g : Geometry) (p : ℕ) (r : RunFields) (o : Option Prefix) → IsRunAt g p r → FitsLarge g (after_run_prefix p r o)
fits-run_prefix g p r None h = h
fits-run_prefix g p r (Some (Small desc)) h = h
fits-run_prefix g p r (Some (Large units)) h = h

-- the point after a shelf's word was read fits
fits-shelf :
    (g : Geometry) (k word : ℕ) (o : Option ShelfWord) → FitsLarge g (LoadShelf k) → Reads IsShelfWord shelf_word word o
    → FitsLarge g (after_shelf k o)
fits-shelf g k word None h reads = h
fits-shelf g k word (Some Nothing) h reads = h
fits-shelf g k word (Some (Block place need)) h reads = record { shelf = h; block = reads.0 }

-- everything that the point after a step, or the exit, remembers exists too
pub settle-fits :
    (g : Geometry) (p : LargePoint) (x : Found) → IsChecked g → x.value < 2 ^ 64 → FitsLarge g p
    → Fits g (settle_large_of p x)
settle-fits g (TakeRun w bits) x checked word h =
    cond_both x.won (after_take w (first_wanted w bits)) (Stays (LoadUnits w)) (Fits g)
    (λ e. fits-take g w bits (first_wanted w bits) checked h (first_run-exact bits w.geometry.units w.units)) (λ e. h)
settle-fits g (LoadRunPrefix place r) x checked word h = fits-run_prefix g place r (prefix_of x.value) h
settle-fits g (LoadShelf shelf) x checked word h =
    fits-shelf g shelf x.value (shelf_of x.value) h (shelf-exact.reads x.value word)
settle-fits g p x checked word h = grind (arith, h)
