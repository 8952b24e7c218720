-- The allocation of a block of a superblock, as it begins and ends.
use Rattle.std.proofs.Common.{ℕ, Option, None, Some, false, ◌≡◌, ◌≢◌, refl, arith}
use Rattle.heap_geometry.specs.Need.{need_of}
use Rattle.heap_geometry.specs.declared.need.Need.TheVariants.{Small}
use Rattle.step_parts.specs.declared.superblock.point.BlockPoint.{BlockPoint}
use Rattle.step_parts.specs.declared.superblock.point.BlockPoint.TheVariants.{LoadActive}
use Rattle.errand_steps.specs.declared.continuation.Continuation.TheVariants.{Alloc}
use Rattle.errand_steps.specs.declared.reply.Begun.TheVariants as begun
use Rattle.errand_steps.specs.declared.told.Ending.{Ending}
use Rattle.errand_steps.specs.Begins.{IsIdle, alloc_answer, alloc_begun, seat_of}
use Rattle.errand_steps.specs.Calls.{alloc}
use Rattle.errand_steps.specs.Errands.{ErrandFields, is_spent, one_more}
use Rattle.live_heap.specs.declared.answers.AllocAnswer.TheVariants as alloc_answers
use Rattle.live_heap.specs.declared.block.Block.{Block}
use Rattle.live_heap.specs.declared.pass.Pass.{Pass}
use Rattle.live_heap.specs.Answers.{AllocTells, alloc_answer_in, reply_in}
use Rattle.live_heap.specs.Heaps.{HeapFields}
use Rattle.live_heap.specs.Calls.{GoesOn, IsCalling}
use Rattle.live_heap.specs.Passes.{IsOf}
use Rattle.live_heap.specs.Going.{in_call, stands_at}
use Rattle.live_heap.proofs.CallsAnswers.{alloc-tells, ended-not_too_large, ends-since, interrupted-since}
use Rattle.live_heap.proofs.CallsGrow.{alloc-calling}

-- an allocation that begins has taken a turn, and would stand at its first point
pub allocs-from :
    (p : Pass) (words class : ℕ) (first : BlockPoint) (e : ErrandFields) → need_of words ≡ Small class → is_spent p.errand ≡ false
    → first ≡ LoadActive (seat_of p.errand class) → e ≡ record p.errand { turns = one_more p.errand.turns }
    → stands_at (record { seat = p.seat; errand = e; out = p.out }) first (Alloc words) ≡ in_call p (alloc words)
unfolding alloc_begun
allocs-from p words class first e small left is turned = rw (is, turned, small, left) refl

alloc-started : (e : ErrandFields) (words class : ℕ) → need_of words ≡ Small class → is_spent e ≡ false → alloc_answer e words ≡ begun.Started
alloc-started e words class small left = rw (small, left) refl

pub alloc-call : (p : Pass) (words class : ℕ) → IsIdle p.errand → need_of words ≡ Small class → is_spent p.errand ≡ false
    → IsCalling p (alloc words) 0 (in_call p (alloc words))
alloc-call p words class idle small left =
    alloc-calling p (in_call p (alloc words)) words (record { seat = refl; errand = refl; out = refl }) idle (alloc-started p.errand words class small left)

-- what an allocation tells where it has gone on so since it began
pub alloc-answers :
    (h : HeapFields) (p : Pass) (words tries : ℕ) (told : Option (Ending Block)) (q : Pass) → IsOf h p → IsOf h q
    → GoesOn p (alloc words) 0 (in_call p (alloc words)) tries (reply_in told) q → AllocTells p words tries (alloc_answer_in told) q
alloc-answers h p words tries None q was of over =
    interrupted-since p (in_call p (alloc words)) (alloc words) tries q (record { seat = refl; errand = refl; out = refl }) over
alloc-answers h p words tries (Some told) q was of ends =
    alloc-tells h p words tries told q was of
    (ends-since p (in_call p (alloc words)) (alloc words) tries q (record { seat = refl; errand = refl; out = refl }) _ ends)

pub answer-fits : (told : Option (Ending Block)) → alloc_answer_in told ≢ alloc_answers.TooLarge
answer-fits None is = grind (arith)
answer-fits (Some told) is = ended-not_too_large told is
