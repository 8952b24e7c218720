use Rattle.std.proofs.Common.{◌≡◌}
use Rattle.workloads.specs.Lanes.{scalability}
use Rattle.workloads.proofs.scalability.scalability.Given as goal

abbrev pub invariant-loop-round : goal.invariant-loop-round
invariant-loop-round l = (l.ops.items, l.draws) ≡ scalability l._round l.fn.draws
