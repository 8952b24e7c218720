use Rattle.std.proofs.Common.{ℕ}
use Rattle.lane_runner.specs.Running.{HasRun}
use Rattle.lane_runner.proofs.RunMeasures.{lane_left}
use Rattle.lane_runner.proofs.run_core.run_to_end.Given as goal

abbrev pub invariant-loop : goal.invariant-loop
invariant-loop g l = (made : ℕ) × HasRun (g.G.Gate.passed l.gate) l.initial.core l.core l.operations l.initial.lane l.lane made

abbrev pub decreases-loop : goal.decreases-loop
decreases-loop g l = lane_left l.core l.operations l.lane
