use Rattle.live_heap.proofs.heap.Heap.alloc_on.Given as goal

abbrev pub ghost-alloc_straight : goal.ghost-alloc_straight
ghost-alloc_straight g a = g.start

abbrev pub ghost-alloc_away : goal.ghost-alloc_away
ghost-alloc_away g a = g.start
