use Rattle.errand_steps.specs.declared.continuation.Continuation.TheVariants.{Free}
use Rattle.live_heap.specs.Going.{stands_at}
use Rattle.live_heap.proofs.heap.Heap.free_small.Given as goal

abbrev pub ghost-free_on : goal.ghost-free_on
ghost-free_on g a = stands_at a.pass.now a.prefix Free
