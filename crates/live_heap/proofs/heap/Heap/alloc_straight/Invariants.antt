use Rattle.live_heap.proofs.heap.Heap.alloc_straight.Given as goal

abbrev pub ghost-stride : goal.ghost-stride
ghost-stride g a = g.start

abbrev pub ghost-finish : goal.ghost-finish
ghost-finish g a = g.start

abbrev pub ghost-offer_credits : goal.ghost-offer_credits
ghost-offer_credits g a = g.start
