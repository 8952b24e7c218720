-- A call that goes on, and one that was made so far without an errand.
use Rattle.std.specs.Prelude.{ℕ, Option, None, Some, ◌≡◌, ◌<◌, ◌≤◌, ◌+◌, ◌*◌, ◌-◌, ◌^◌}
use Rattle.heap_geometry.specs.declared.geometry.Geometry.{Geometry}
use Rattle.heap_geometry.specs.declared.limits.TheConstants.{CALL_STEPS}
use Rattle.atomic_region.specs.declared.shared.Seat.{Seat}
use Rattle.word_table.specs.declared.action.Found.{Found as Find}
use Rattle.step_parts.specs.declared.large.point.LargePoint.{LargePoint}
use Rattle.step_parts.specs.declared.superblock.point.BlockPoint.{BlockPoint}
use Rattle.step_parts.specs.declared.superblock.point.BlockPoint.TheVariants as block
use Rattle.step_parts.specs.declared.superblock.exit.BlockExit.{BlockExit}
use Rattle.pool_model.specs.Histories.{Begins}
use Rattle.errand_steps.specs.declared.continuation.Continuation.{Continuation}
use Rattle.errand_steps.specs.declared.continuation.Continuation.TheVariants.{Nothing}
use Rattle.errand_steps.specs.declared.next.Next.TheVariants.{End}
use Rattle.errand_steps.specs.declared.point.Point.TheVariants as point
use Rattle.errand_steps.specs.declared.told.Ending.{Ending}
use Rattle.errand_steps.specs.Begins.{IsBusy, IsIdle}
use Rattle.errand_steps.specs.Offers.{offered_at}
use Rattle.errand_steps.specs.Calls.{Call, begun_by}
use Rattle.errand_steps.specs.Errands.{ErrandFields, IsErrand, answer_of, settle_of}
use Rattle.errand_steps.specs.Nexts.{leave_block}
use Rattle.sound_laws.specs.bounds.StepsLeft.{steps_left}
use Rattle.live_heap.specs.declared.answers.AllocAnswer.{AllocAnswer}
use Rattle.live_heap.specs.declared.answers.FreeAnswer.{FreeAnswer}
use Rattle.live_heap.specs.declared.block.Block.{Block}
use Rattle.live_heap.specs.Heaps.{HeapFields}
use Rattle.live_heap.specs.declared.pass.Pass.{Pass}
use Rattle.live_heap.specs.declared.view.View.{View}
use Rattle.live_heap.specs.Answers.{alloc_answer_in, free_answer_in, reply_in, reply_of}
use Rattle.live_heap.specs.Calls.{GoesOn, IsCalling, IsInterrupted, tries_of}
use Rattle.live_heap.specs.Passes.{IsOf, seen, view}
use Rattle.live_heap.specs.Pieces.{IsReady}
use Rattle.live_heap.specs.Sights.{TakesStep, found_in}

-- a pass as it would stand in a call that it has begun
abbrev pub in_call : Pass → Call → Pass
in_call p call = record { seat = p.seat; errand = begun_by p.errand call; out = p.out }

-- the step of an errand found this, and saw this view become that one
abbrev pub HasFound : ErrandFields → Find → View → View → Type 0
HasFound e x v w =
    (n : ℕ) × TakesStep e n v w × (settle_of e x ≡ settle_of e (found_in e n)) × (answer_of e x ≡ answer_of e (found_in e n))

-- a call that is given so many tries has gone on from p to q, and has so many of them left
pub record IsGoing (h : HeapFields) (p : Pass) (tries left : ℕ) (q : Pass) : Type 0 where
  pub busy : IsBusy q.errand
  pub grows : Begins (seen p) (seen q)
  pub calls :
      (first : Pass) (call : Call) (made : ℕ) → IsCalling first call made p
      → (steps : ℕ) × IsCalling first call steps q
      × (steps + steps_left h.layout q.errand.point + CALL_STEPS * left < made + CALL_STEPS * tries + CALL_STEPS)
      × (left ≡ 0 → IsInterrupted first call made p tries q)
  pub most : tries_of q.errand + left ≤ tries_of p.errand + tries
  pub spent : q.errand.lost < 2 ^ 64 - 1 → tries_of q.errand + left ≡ tries_of p.errand + tries

-- a call that stood at `start` and is given so many tries has gone on to this answer
pub record HasGone (h : HeapFields) (start : Pass) (tries : ℕ) (told : Option (Ending Block)) (q : Pass) : Type 0 where
  pub of : IsOf h q
  pub grows : Begins (seen start) (seen q)
  pub goes :
      (first : Pass) (call : Call) (made : ℕ) → IsCalling first call made start → GoesOn first call made start tries (reply_in told) q

-- an allocation that stood at `start` has gone on to this answer; and a free has
abbrev pub HasAllocated : HeapFields → Pass → ℕ → AllocAnswer Block → Pass → Type 0
HasAllocated h start tries answer q = (told : Option (Ending Block)) × HasGone h start tries told q × (answer ≡ alloc_answer_in told)

abbrev pub HasFreed : HeapFields → Pass → ℕ → FreeAnswer → Pass → Type 0
HasFreed h start tries answer q = (told : Option (Ending Block)) × HasGone h start tries told q × (answer ≡ free_answer_in told)

-- an errand that stands at a point of a superblock, and a pass whose errand would
abbrev pub at_block : ErrandFields → BlockPoint → Continuation → ErrandFields
at_block e p o = record e { point = point.Block p o }

abbrev pub stands_at : Pass → BlockPoint → Continuation → Pass
stands_at q p o = record { seat = q.seat; errand = at_block q.errand p o; out = q.out }

-- the step at this point links no block of a new superblock, so it is the first to use no piece
abbrev pub LinksNone : BlockPoint → Type 0
LinksNone (block.LinkBlock at i) = ⊥
LinksNone p = Unit {0}

-- a call that stood at `start` and is given so many tries has come to this point, and none is lost; the pass's own errand is idle all the time
pub record IsWalking (h : HeapFields) (start : Pass) (tries : ℕ) (p : BlockPoint) (o : Continuation) (q : Pass) : Type 0 where
  pub of : IsOf h (stands_at q p o)
  pub going : IsGoing h start tries tries (stands_at q p o)
  pub idle : IsIdle q.errand
  pub rule : IsErrand (at_block q.errand p o)
  pub some : 0 < tries
  pub links_none : LinksNone p

-- a walking call's seat has made the step from its point and found this; the pass's errand stands still
pub record HasWalked (h : HeapFields) (start : Pass) (tries : ℕ) (p : BlockPoint) (o : Continuation) (x : Find) (q : Pass) : Type 0 where
  pub seat : Seat View
  pub walks : IsWalking h start tries p o (record { seat = seat; errand = q.errand; out = q.out })
  pub has : HasFound (at_block q.errand p o) x seat.me.0 (view q)
  pub table : q.seat.region ≡ seat.region
  pub empty : q.seat.me.1 ≡ seat.me.1

-- a call that stood at `start` had come to a pass `last`; the seat of this one has made the step from there and found this, and its errand stands there still
pub record Rejoins (h : HeapFields) (start : Pass) (tries : ℕ) (x : Find) (q : Pass) : Type 0 where
  pub last : Pass
  pub of : IsOf h last
  pub going : IsGoing h start tries tries last
  pub stands : q.errand ≡ last.errand
  pub offers : offered_at last.errand.point ≡ None
  pub has : HasFound last.errand x (view last) (view q)
  pub table : q.seat.region ≡ last.seat.region
  pub empty : q.seat.me.1 ≡ last.seat.me.1
  pub out : q.out ≡ last.out

-- a call that leaves a superblock by this exit ends so, wherever it goes on
abbrev pub EndsBy : Option BlockExit → Ending Block → Type 0
EndsBy exit ending = (e : BlockExit) × (exit ≡ Some e) × ((o : Continuation) → leave_block e o ≡ End (reply_of ending))

-- an errand that stands at a point of a shelf, and a pass whose errand would
abbrev pub at_shelf : ErrandFields → LargePoint → ErrandFields
at_shelf e p = record e { point = point.Large p Nothing }

abbrev pub stands_on : Pass → LargePoint → Pass
stands_on q p = record { seat = q.seat; errand = at_shelf q.errand p; out = q.out }

-- the step at this point is the first to use no piece of the arena
abbrev pub OpensNone : Geometry → LargePoint → Type 0
OpensNone g p = (v : View) → IsReady g (point.Large p Nothing) v
