use Rattle.live_heap.specs.Going.{at_block}
use Rattle.live_heap.proofs.heap.Heap.walk.Given as goal

abbrev pub ghosts-step_at : goal.ghosts-step_at
ghosts-step_at g a = record { errand = at_block a._errand.now a._at.now a._goes.now }
