use Rattle.live_heap.proofs.heap.Heap.step.Given as goal

abbrev pub ghosts-act : goal.ghosts-act
ghosts-act g a = record { errand = a._errand.now }
