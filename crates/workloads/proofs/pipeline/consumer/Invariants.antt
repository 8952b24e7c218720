use Rattle.std.proofs.Common.{◌≡◌}
use Rattle.workloads.specs.Lanes.{consumed}
use Rattle.workloads.proofs.pipeline.consumer.Given as goal

abbrev pub invariant-loop-round : goal.invariant-loop-round
invariant-loop-round l = l.ops.items ≡ consumed l.pair l.round
