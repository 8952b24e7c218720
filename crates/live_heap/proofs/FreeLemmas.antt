-- The free of a block of a superblock, as it begins and ends.
use Rattle.std.proofs.Common.{ℕ, Option, None, Some, ◌≡◌, refl}
use Rattle.heap_geometry.specs.Place.{frame_of, index_of}
use Rattle.heap_geometry.specs.declared.need.Need.TheVariants.{Small}
use Rattle.step_parts.specs.declared.superblock.point.BlockPoint.{BlockPoint}
use Rattle.step_parts.specs.declared.superblock.point.BlockPoint.TheVariants.{LoadPrefix}
use Rattle.errand_steps.specs.declared.continuation.Continuation.TheVariants.{Free}
use Rattle.errand_steps.specs.declared.told.Ending.{Ending}
use Rattle.errand_steps.specs.Begins.{IsHeapBlock, IsIdle, free_begun, seat_of}
use Rattle.errand_steps.specs.Calls.{free}
use Rattle.live_heap.specs.declared.block.Block.{Block}
use Rattle.live_heap.specs.declared.pass.Pass.{Pass}
use Rattle.live_heap.specs.Answers.{FreeTells, free_answer_in, reply_in}
use Rattle.live_heap.specs.Calls.{GoesOn, IsCalling}
use Rattle.live_heap.specs.Going.{in_call, stands_at}
use Rattle.live_heap.proofs.CallsAnswers.{ends-since, free-tells, interrupted-since}
use Rattle.live_heap.proofs.CallsGrow.{other-calling}

-- a free that begins would stand at its first point
pub frees-from :
    (p : Pass) (place class : ℕ) (first : BlockPoint) → first ≡ LoadPrefix (seat_of p.errand class) (frame_of place) (index_of class place)
    → stands_at p first Free ≡ in_call p (free place (Small class))
unfolding free_begun
frees-from p place class first is = rw is refl

pub free-calling : (p : Pass) (place class : ℕ) → IsIdle p.errand → IsHeapBlock p.errand.geometry place (Small class)
    → IsCalling p (free place (Small class)) 0 (in_call p (free place (Small class)))
free-calling p place class idle block =
    other-calling p (in_call p (free place (Small class))) (free place (Small class)) (record { seat = refl; errand = refl; out = refl }) idle block (λ words is. cc)

-- what a free tells where it has gone on so since it began
pub free-answers :
    (p : Pass) (block : Block) (tries : ℕ) (told : Option (Ending Block)) (q : Pass)
    → GoesOn p (free block.place block.need) 0 (in_call p (free block.place block.need)) tries (reply_in told) q
    → FreeTells p block tries (free_answer_in told) q
free-answers p block tries None q over =
    interrupted-since p (in_call p (free block.place block.need)) (free block.place block.need) tries q (record { seat = refl; errand = refl; out = refl }) over
free-answers p block tries (Some told) q ends =
    free-tells p block tries told q
    (ends-since p (in_call p (free block.place block.need)) (free block.place block.need) tries q (record { seat = refl; errand = refl; out = refl }) _ ends)
