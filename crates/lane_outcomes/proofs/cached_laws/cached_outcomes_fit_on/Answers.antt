use Rattle.lane_outcomes.proofs.LaterLemmas.{cached-fits-later}
use Rattle.lane_outcomes.proofs.cached_laws.cached_outcomes_fit_on.Goals as goal

pub returns : goal.returns
returns c = cached-fits-later
