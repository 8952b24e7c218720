use Rattle.std.proofs.Common.{◌≡◌, ◌++◌}
use Rattle.workloads.specs.Held.{frees_below}
use Rattle.workloads.proofs.larson.write_frees.Given as goal

abbrev pub invariant-loop-r : goal.invariant-loop-r
invariant-loop-r l = l.ops.items ≡ l.fn.ops.items ++ frees_below l.r l.fn.ops.items
