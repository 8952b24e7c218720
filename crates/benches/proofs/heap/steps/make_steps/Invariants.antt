use Rattle.std.proofs.Common.{◌≡◌}
use Rattle.live_heap.specs.Passes.{IsOf}
use Rattle.benches.proofs.heap.steps.make_steps.Given as goal

abbrev pub invariant-loop : goal.invariant-loop
invariant-loop g l = record {
  can_next : (goal.iterator-loop g).can_next l.iterator';
  is_finite : (goal.iterator-loop g).is_finite l.iterator';
  of : IsOf l.heap l.pass;
  home : l.pass.out ≡ 0;
}
