use Rattle.std.proofs.Common.{◌≡◌}
use Rattle.workloads.specs.Draws.{behind}
use Rattle.workloads.specs.Lanes.{batch_allocs}
use Rattle.workloads.proofs.threadtest.write_allocs.Given as goal

abbrev pub invariant-loop-r : goal.invariant-loop-r
invariant-loop-r l = (l.ops.items, l.draws) ≡ behind l.fn.ops.items (batch_allocs l.r l.fn.draws)
