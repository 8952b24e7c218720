use Rattle.live_heap.proofs.heap.Heap.finish.Given as goal

abbrev pub ghost-walk : goal.ghost-walk
ghost-walk g a = g.start
