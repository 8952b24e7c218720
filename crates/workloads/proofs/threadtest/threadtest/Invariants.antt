use Rattle.std.proofs.Common.{◌≡◌}
use Rattle.workloads.specs.Lanes.{full_batches}
use Rattle.workloads.proofs.threadtest.threadtest.Given as goal

abbrev pub invariant-loop-full : goal.invariant-loop-full
invariant-loop-full l = (l.ops.items, l.draws) ≡ full_batches l._full l.fn.draws
