use Rattle.std.proofs.Common.{All}
use Rattle.errand_steps.specs.Begins.{IsIdle}
use Rattle.live_heap.specs.Passes.{IsOf}
use Rattle.heap_scripts.specs.Sides.{AreHands}
use Rattle.heap_scripts.proofs.side.idle_passes.Given as goal

abbrev pub invariant-loop-hand : goal.invariant-loop-hand
invariant-loop-hand l = record {
  can_next : (goal.iterator-loop-hand).can_next l.hand-iterator;
  is_finite : (goal.iterator-loop-hand).is_finite l.hand-iterator;
  left : AreHands l.heap l.hand-iterator.rest.items;
  done : All (λ p. IsOf l.heap p × IsIdle p.errand) l.passes.items;
}
