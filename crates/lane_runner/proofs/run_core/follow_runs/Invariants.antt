use Rattle.std.proofs.Common.{drop, length}
use Rattle.lane_runner.specs.Orders.{InOrder}
use Rattle.lane_runner.specs.Running.{HaveRunBefore}
use Rattle.lane_runner.proofs.run_core.follow_runs.Given as goal

abbrev pub invariant-loop-run : goal.invariant-loop-run
invariant-loop-run g l =
    HaveRunBefore (g.G.Gate.passed l.gate) l.trace (InOrder (drop l.run-index l.run-items) (length l.trace.lanes)) l.core l.lanes.items
