use Rattle.lane_outcomes.proofs.LaterLemmas.{fits-later}
use Rattle.lane_outcomes.proofs.laws.outcomes_fit_on.Goals as goal

pub returns : goal.returns
returns c = fits-later
