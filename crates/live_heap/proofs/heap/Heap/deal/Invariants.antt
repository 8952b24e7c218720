use Rattle.std.proofs.Common.{◌≡◌, ◌-◌, [], length, vec_capacity}
use Rattle.live_heap.specs.Passes.{AreFrom}
use Rattle.live_heap.specs.Views.{idle_view}
use Rattle.live_heap.proofs.heap.Heap.deal.Given as goal

abbrev pub invariant-loop-caller : goal.invariant-loop-caller
invariant-loop-caller g l = record {
  table : l.rest.region ≡ l.self.region;
  me : l.rest.me ≡ (idle_view l.self.layout l.caller (l.self.layout.callers - l.caller), []);
  dealt : AreFrom l.self 0 l.passes.items;
  len : length l.passes.items ≡ l.caller;
  room : vec_capacity l.passes ≡ vec_capacity l.initial.passes;
}
