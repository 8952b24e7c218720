use Rattle.live_heap.proofs.heap.Heap.guard_last.Given as goal

abbrev pub ghost-stride : goal.ghost-stride
ghost-stride g a = g.start
