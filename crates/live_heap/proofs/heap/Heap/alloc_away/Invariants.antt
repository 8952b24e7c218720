use Rattle.live_heap.proofs.heap.Heap.alloc_away.Given as goal

abbrev pub ghost-rejoin : goal.ghost-rejoin
ghost-rejoin g a = g.start
