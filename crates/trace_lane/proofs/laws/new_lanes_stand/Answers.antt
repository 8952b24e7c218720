use Rattle.trace_lane.proofs.EndedLemmas.{lane-new}
use Rattle.trace_lane.proofs.laws.new_lanes_stand.Goals as goal

pub returns : goal.returns
returns g c = lane-new
