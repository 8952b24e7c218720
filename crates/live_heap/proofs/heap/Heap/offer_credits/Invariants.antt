use Rattle.live_heap.proofs.heap.Heap.offer_credits.Given as goal

abbrev pub ghost-stride : goal.ghost-stride
ghost-stride g a = g.start
