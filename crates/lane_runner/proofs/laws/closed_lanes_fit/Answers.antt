use Rattle.lane_runner.proofs.ClosedFits.{closed-fit}
use Rattle.lane_runner.proofs.laws.closed_lanes_fit.Goals as goal

pub returns : goal.returns
returns c = closed-fit
