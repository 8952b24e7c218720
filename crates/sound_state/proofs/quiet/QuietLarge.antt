-- Quiet steps at a large block, a usable word or a shelf: loads, and exchanges that are lost.
use Rattle.std.proofs.Common.{ℕ, ◌≢◌, refl, arith}
use Rattle.sound_state.proofs.Common.{Continuation, Large, event_of, next_of, plan_point_of, holds_of, recalls_of, WantFields, RunFields, Need, shelf_word}
use Rattle.word_table.specs.declared.name.WordName.TheVariants as name
use Rattle.step_parts.specs.declared.large.point.LargePoint.TheVariants as large
use Rattle.sound_state.proofs.quiet.QuietExchanges.{lost-onward}
use Rattle.sound_state.proofs.quiet.QuietSteps.{onward}
use Rattle.sound_state.proofs.shared.KeepsSound.{KeepsSound, KeepsSoundWhere}
use Rattle.packed_words.specs.declared.shelf.ShelfWord.TheVariants as shelf

-- the load of the units keeps the state sound
pub load_units-sound : (w : WantFields) (o : Continuation) → KeepsSound (Large (large.LoadUnits w) o)
unfolding plan_point_of next_of event_of holds_of recalls_of
load_units-sound w o = onward _ (grind (arith)) (λ v. grind (arith))

-- a lost take of a run, after which the units are read again, keeps the state sound
pub take_run_lost-sound :
    (w : WantFields) (bits : ℕ) (o : Continuation) → KeepsSoundWhere (Large (large.TakeRun w bits) o) (λ s. s.word name.Units ≢ bits)
unfolding plan_point_of next_of event_of holds_of recalls_of
take_run_lost-sound w bits o = lost-onward _ _ _ _ refl (λ v. refl) (λ v. grind (arith))

-- the load of a freed run's prefix word, and the look at a shelf, keep the state sound
pub load_run_prefix-sound : (place : ℕ) (run : RunFields) (o : Continuation) → KeepsSound (Large (large.LoadRunPrefix place run) o)
unfolding plan_point_of next_of event_of holds_of recalls_of
load_run_prefix-sound place run o = onward _ (grind (arith)) (λ w. grind (arith))

pub load_shelf-sound : (k : ℕ) (o : Continuation) → KeepsSound (Large (large.LoadShelf k) o)
unfolding plan_point_of next_of event_of holds_of recalls_of
load_shelf-sound k o = onward _ (grind (arith)) (λ w. grind (arith))

-- the read of a usable word keeps the state sound
pub load_word-sound : (place i : ℕ) (o : Continuation) → KeepsSound (Large (large.LoadWord place i) o)
unfolding plan_point_of next_of event_of holds_of recalls_of
load_word-sound place i o = onward _ (grind (arith)) (λ w. grind (arith))

-- a put that finds a block on the shelf keeps the state sound
pub put_block_lost-sound :
    (k place : ℕ) (n : Need) (o : Continuation)
    → KeepsSoundWhere (Large (large.PutBlock k place n) o) (λ s. s.word (name.Shelf k) ≢ shelf_word shelf.Nothing)
unfolding plan_point_of next_of event_of holds_of recalls_of
put_block_lost-sound k place n o = lost-onward _ _ _ _ refl (λ w. refl) (λ w. grind (arith))

-- a take that finds its block gone from the shelf keeps the state sound
pub take_block_lost-sound :
    (k place : ℕ) (n : Need) (o : Continuation)
    → KeepsSoundWhere (Large (large.TakeBlock k place n) o) (λ s. s.word (name.Shelf k) ≢ shelf_word (shelf.Block place n))
unfolding plan_point_of next_of event_of holds_of recalls_of
take_block_lost-sound k place n o = lost-onward _ _ _ _ refl (λ w. refl) (λ w. grind (arith))

-- a take that saw nothing on the shelf, where a block lies now, keeps the state sound
pub confirm_nothing_lost-sound :
    (k : ℕ) (o : Continuation) → KeepsSoundWhere (Large (large.ConfirmNothing k) o) (λ s. s.word (name.Shelf k) ≢ shelf_word shelf.Nothing)
unfolding plan_point_of next_of event_of holds_of recalls_of
confirm_nothing_lost-sound k o = lost-onward _ _ _ _ refl (λ w. refl) (λ w. grind (arith))
