use Rattle.lane_outcomes.proofs.CachedLemmas.{lane-holds}
use Rattle.lane_outcomes.proofs.cached_laws.registers_and_magazines_hold_own_blocks.Goals as goal

pub returns : goal.returns
returns c = lane-holds
