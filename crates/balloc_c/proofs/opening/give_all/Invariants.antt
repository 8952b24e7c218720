use Rattle.std.proofs.Common.{◌≡◌, ◌+◌, length}
use Rattle.std.specs.Arc.{arc_value}
use Rattle.live_heap.specs.Passes.{AreFrom}
use Rattle.shared_heap.specs.Shares.{IsDealerOf}
use Rattle.balloc_c.specs.Opened.{HoldNew}
use Rattle.balloc_c.proofs.opening.give_all.Given as goal

abbrev pub invariant-loop-pass : goal.invariant-loop-pass
invariant-loop-pass l = record {
  can_next : (goal.iterator-loop-pass).can_next l.pass-iterator;
  is_finite : (goal.iterator-loop-pass).is_finite l.pass-iterator;
  left : AreFrom (arc_value l.heap.heap) l.number l.pass-iterator.rest.items;
  count : l.number + length l.pass-iterator.rest.items ≡ length l.passes;
  dealer : IsDealerOf l.heap l.number l.dealer;
  given : HoldNew (arc_value l.heap.heap) l.depth l.number l.passes;
}
