use Rattle.lane_outcomes.proofs.RoomLemmas.{fits-plain, outcomes-plain}
use Rattle.lane_outcomes.proofs.cached_laws.caches_without_room_are_none.Goals as goal

pub returns-clause-lane : goal.returns-clause-lane
returns-clause-lane c = fits-plain

pub returns-clause-lanes : goal.returns-clause-lanes
returns-clause-lanes c = outcomes-plain
