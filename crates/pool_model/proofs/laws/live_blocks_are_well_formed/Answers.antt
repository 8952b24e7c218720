use Rattle.pool_model.specs.Pool.{pool_of}
use Rattle.pool_model.specs.WellFormed.{IsWellFormed}
use Rattle.pool_model.proofs.PoolLemmas.{every-each}
use Rattle.pool_model.proofs.WellFormedLemmas.{sound-of}
use Rattle.pool_model.proofs.laws.live_blocks_are_well_formed.Goals as goal

pub returns : goal.returns
returns c = λ g history legal. every-each (IsWellFormed g) (pool_of history) (sound-of g history legal).each
