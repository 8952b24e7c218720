use Rattle.lane_outcomes.proofs.BoundLemmas.{lane-hits, lanes-hits, walk-shallow}
use Rattle.lane_outcomes.proofs.cached_laws.magazines_and_hits_are_bounded.Goals as goal

pub returns-clause-depth : goal.returns-clause-depth
returns-clause-depth c = walk-shallow

pub returns-clause-lane : goal.returns-clause-lane
returns-clause-lane c = lane-hits

pub returns-clause-lanes : goal.returns-clause-lanes
returns-clause-lanes c = λ g history lost depth lanes outcomes hits fit. lanes-hits g history lost depth 0 lanes outcomes hits fit.lanes_fit
