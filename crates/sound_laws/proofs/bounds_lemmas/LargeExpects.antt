-- At a large block, a usable word or a shelf: what a caller expects after a step its step saw.
use Rattle.std.proofs.Common.{ℕ, Option, Some, None, ◌≡◌, ◌<◌, ◌^◌, [], refl, arith, sym}
use Rattle.packed_words.specs.declared.shelf.ShelfWord.TheVariants.{Nothing, Block}
use Rattle.packed_words.specs.Fields.{Reads}
use Rattle.word_table.specs.declared.name.WordName.TheVariants as name
use Rattle.sound_state.proofs.Common.{ShelfWord, IsShelfWord, shelf_word, shelf_of, reads, shelf-exact, LargePoint, Continuation, Large, next_of, plan_point_of}
use Rattle.sound_state.proofs.Common.{after_shelf}
use Rattle.step_parts.specs.declared.large.point.LargePoint.TheVariants as large
use Rattle.sound_laws.specs.bounds.Expectations.{expects_of}
use Rattle.sound_laws.proofs.bounds_lemmas.ExpectLemmas.{MayAll, expects-none, load-seen}
use Rattle.sound_laws.proofs.bounds_lemmas.WinDefs.{ExpectsOn}

-- a shelf's word that says something is the word that it was made of
shelf-word-back : (v : ℕ) (w : ShelfWord) → v < 2 ^ 64 → shelf_of v ≡ Some w → v ≡ shelf_word w
shelf-word-back v w below is =
    let has : Reads IsShelfWord shelf_word v (Some w) = reads shelf-exact v (Some w) below (sym is) in
    sym has.1

-- a load of a shelf sees all that its caller expects after it
shelf-on :
    (shelf : ℕ) (o : Continuation) (v : ℕ) (w : Option ShelfWord) → v < 2 ^ 64 → shelf_of v ≡ w
    → MayAll (Large (large.LoadShelf shelf) o) v (expects_of (Large (after_shelf shelf w) o))
unfolding plan_point_of expects_of
shelf-on shelf o v None below is = expects-none (Large (large.LoadShelf shelf) o) v
shelf-on shelf o v (Some Nothing) below is =
    load-seen (Large (large.LoadShelf shelf) o) v (name.Shelf shelf) (shelf_word Nothing) [] refl (shelf-word-back v Nothing below is)
    (expects-none (Large (large.LoadShelf shelf) o) v)
shelf-on shelf o v (Some (Block place need)) below is =
    load-seen (Large (large.LoadShelf shelf) o) v (name.Shelf shelf) (shelf_word (Block place need)) [] refl
    (shelf-word-back v (Block place need) below is) (expects-none (Large (large.LoadShelf shelf) o) v)

-- what a caller expects after a step at a large block, a usable word or a shelf the step saw
pub large-expects : (p : LargePoint) (o : Continuation) (v : ℕ) → v < 2 ^ 64 → ExpectsOn (Large p o) v
unfolding plan_point_of next_of expects_of
large-expects (large.LoadUnits w) o v below =
    load-seen (Large (large.LoadUnits w) o) v name.Units v [] refl refl (expects-none (Large (large.LoadUnits w) o) v)
large-expects (large.LoadShelf shelf) o v below = shelf-on shelf o v (shelf_of v) below refl
large-expects p o v below = grind (arith, expects-none (Large p o) v)
