use Rattle.live_heap.proofs.heap.Heap.free_straight.Given as goal

abbrev pub ghost-stride : goal.ghost-stride
ghost-stride g a = g.start

abbrev pub ghost-finish : goal.ghost-finish
ghost-finish g a = g.start

abbrev pub ghost-guard_last : goal.ghost-guard_last
ghost-guard_last g a = g.start
