use Rattle.lane_runner.proofs.ClosedLemmas.{closed-fit}
use Rattle.lane_runner.proofs.laws.closed_lanes_fit_through_caches.Goals as goal

pub returns : goal.returns
returns c = closed-fit
