use Rattle.pool_model.proofs.CapacityLemmas.{live-fits}
use Rattle.pool_model.proofs.laws.live_blocks_fit_the_arena.Goals as goal

pub returns : goal.returns
returns c = live-fits
