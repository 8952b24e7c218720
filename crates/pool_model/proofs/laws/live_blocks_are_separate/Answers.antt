use Rattle.pool_model.specs.Pool.{pool_of}
use Rattle.pool_model.proofs.WellFormedLemmas.{sound-of, separate-found}
use Rattle.pool_model.proofs.laws.live_blocks_are_separate.Goals as goal

pub returns : goal.returns
returns c = λ g history legal. separate-found g (pool_of history) (sound-of g history legal)
