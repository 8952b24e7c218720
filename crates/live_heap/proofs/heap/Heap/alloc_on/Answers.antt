use Rattle.std.proofs.Common.{Some}
use Rattle.errand_steps.specs.Calls.{alloc}
use Rattle.live_heap.proofs.CallsAnswers.{ending-of_alloc}
use Rattle.live_heap.proofs.heap.Heap.alloc_on.Goals as goal

pub alloc_ended-requires : goal.alloc_ended-requires
alloc_ended-requires g c =
    let (first, calling) = c.requires.1.1 in
    let all = (c.in-Ok.ensures.ends.goes first (alloc c.args.need) 0 calling).called.ended.ended in
    ending-of_alloc c.args.need c.in-Ok.ending all.0 all.1

pub returns-in-Ok : goal.returns-in-Ok
returns-in-Ok g c = (Some c.in-Ok.ending, c.in-Ok.ensures.ends, c.alloc_ended.ensures)
