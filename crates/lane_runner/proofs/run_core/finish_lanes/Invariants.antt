use Rattle.lane_runner.specs.Running.{HaveFinished}
use Rattle.lane_runner.proofs.run_core.finish_lanes.Given as goal

abbrev pub invariant-loop-lane : goal.invariant-loop-lane
invariant-loop-lane g l = HaveFinished (g.G.Gate.passed l.gate) l.trace l.lane l.core l.lanes.items
