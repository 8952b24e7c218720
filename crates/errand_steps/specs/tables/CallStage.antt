-- How far a call may be, as far as its events show it.
use Rattle.std.specs.Prelude.{ℕ, Bool, true, false}
use Rattle.heap_geometry.specs.Place.{block_place}
use Rattle.heap_geometry.specs.declared.need.Need.TheVariants.{Small}
use Rattle.heap_geometry.specs.declared.need.Need.{Need}
use Rattle.word_table.specs.Seats.{SeatFields}
use Rattle.word_table.specs.declared.seat.Site.{Site}
use Rattle.errand_steps.specs.Points.{site_of}
use Rattle.errand_steps.specs.declared.continuation.Continuation.TheVariants as continuation
use Rattle.errand_steps.specs.declared.continuation.Continuation.{Continuation}

-- how far a call is: it asks for words of a class (and has looked, where it found no partial superblock in this turn), or for words of a run; it is refused, or given a block; it frees a block, or has freed it; it writes a usable word, or reads one; it puts a block on a shelf, or takes one from there; or there is no call
pub data StageOfCall : Type 0 where
  asking : (words class : ℕ) (looked : Bool) → StageOfCall
  asking_run : (words units : ℕ) → StageOfCall
  refused : StageOfCall
  given : (place : ℕ) (need : Need) → StageOfCall
  freeing : (place : ℕ) (need : Need) → StageOfCall
  freed : StageOfCall
  writing : (place i value : ℕ) → StageOfCall
  reading : (place i : ℕ) → StageOfCall
  putting : (place : ℕ) (need : Need) (shelf : ℕ) → StageOfCall
  taking : (shelf : ℕ) → StageOfCall
  none : StageOfCall

-- the stage at which a block of a superblock is handed out
abbrev pub block_given : Site → ℕ → StageOfCall
block_given at i = given (block_place at.frame at.seat.class i) (Small at.seat.class)

-- the stage at a stack, at the descriptors and at a partial superblock is what the caller goes on with; an allocation has looked where its part says so, or where it takes a frame
abbrev pub continuation_stage : Bool → SeatFields → Continuation → StageOfCall
continuation_stage looked s (continuation.Alloc words) = asking words s.class looked
continuation_stage looked s (continuation.TakeFrame words d) = asking words s.class true
continuation_stage looked s (continuation.GiveBlock words d frame i) = block_given (site_of s d frame) i
continuation_stage looked s (continuation.Discard words d) = asking words s.class false
continuation_stage looked s (continuation.Turn words) = asking words s.class false
continuation_stage looked s (continuation.Look words) = asking words s.class false
continuation_stage looked s continuation.Refuse = refused
continuation_stage looked s continuation.Nothing = none
continuation_stage looked s o = freed
