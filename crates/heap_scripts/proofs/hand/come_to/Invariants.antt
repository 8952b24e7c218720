use Rattle.live_heap.specs.Hands.{IsHand}
use Rattle.heap_scripts.proofs.hand.come_to.Given as goal

abbrev pub invariant-loop-row : goal.invariant-loop-row
invariant-loop-row l = IsHand l.heap l.pass l.blocks.items
