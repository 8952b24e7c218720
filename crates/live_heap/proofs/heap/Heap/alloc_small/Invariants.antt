use Rattle.errand_steps.specs.declared.continuation.Continuation.TheVariants.{Alloc}
use Rattle.live_heap.specs.Going.{stands_at}
use Rattle.live_heap.proofs.heap.Heap.alloc_small.Given as goal

abbrev pub ghost-alloc_on : goal.ghost-alloc_on
ghost-alloc_on g a = stands_at a.pass.now a.active (Alloc a.need)
