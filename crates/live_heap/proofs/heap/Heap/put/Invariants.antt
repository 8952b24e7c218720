use Rattle.live_heap.specs.Going.{at_shelf}
use Rattle.live_heap.proofs.heap.Heap.put.Given as goal

abbrev pub ghosts-step_on_shelf : goal.ghosts-step_on_shelf
ghosts-step_on_shelf g a = record { errand = at_shelf a._errand.now a._at.now }
