use Rattle.trace_lane.proofs.EndedLemmas.{lane-beside}
use Rattle.trace_lane.proofs.laws.lanes_stand_beside.Goals as goal

pub returns : goal.returns
returns c = lane-beside
