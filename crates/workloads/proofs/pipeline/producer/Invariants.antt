use Rattle.std.proofs.Common.{◌≡◌}
use Rattle.workloads.specs.Lanes.{produced}
use Rattle.workloads.proofs.pipeline.producer.Given as goal

abbrev pub invariant-loop-round : goal.invariant-loop-round
invariant-loop-round l = (l.ops.items, l.draws) ≡ produced l.pair l.round l.fn.draws
