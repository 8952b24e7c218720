use Rattle.lane_runner.proofs.DrivenLemmas.{AreNewSo}
use Rattle.lane_runner.proofs.lanes.open_lanes.Given as goal

abbrev pub invariant-loop-lane : goal.invariant-loop-lane
invariant-loop-lane g l = AreNewSo l.trace.lanes l.lane l.lanes.items
