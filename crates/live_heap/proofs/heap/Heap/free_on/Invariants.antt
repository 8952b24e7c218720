use Rattle.live_heap.proofs.heap.Heap.free_on.Given as goal

abbrev pub ghost-free_straight : goal.ghost-free_straight
ghost-free_straight g a = g.start

abbrev pub ghost-free_away : goal.ghost-free_away
ghost-free_away g a = g.start
