use Rattle.live_heap.proofs.heap.Heap.rejoin.Given as goal

abbrev pub ghost-drive : goal.ghost-drive
ghost-drive g a = g.start
