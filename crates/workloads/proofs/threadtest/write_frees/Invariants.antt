use Rattle.std.proofs.Common.{◌≡◌, ◌++◌}
use Rattle.workloads.specs.Lanes.{batch_frees}
use Rattle.workloads.proofs.threadtest.write_frees.Given as goal

abbrev pub invariant-loop-r : goal.invariant-loop-r
invariant-loop-r l = l.ops.items ≡ l.fn.ops.items ++ batch_frees l.r
