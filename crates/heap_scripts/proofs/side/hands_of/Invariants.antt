use Rattle.std.proofs.Common.{ℕ}
use Rattle.live_heap.specs.Passes.{AreFrom}
use Rattle.heap_scripts.specs.Sides.{AreHands}
use Rattle.heap_scripts.proofs.side.hands_of.Given as goal

abbrev pub invariant-loop-pass : goal.invariant-loop-pass
invariant-loop-pass l = record {
  can_next : (goal.iterator-loop-pass).can_next l.pass-iterator;
  is_finite : (goal.iterator-loop-pass).is_finite l.pass-iterator;
  left : (caller : ℕ) × AreFrom l._heap caller l.pass-iterator.rest.items;
  hands : AreHands l._heap l.hands.items;
}
