use Rattle.std.proofs.Common.{◌≡◌, Some}
use Rattle.pool_model.specs.Pool.{block_at, pool_of}
use Rattle.pool_model.proofs.PoolLemmas.{every-All}
use Rattle.pool_model.proofs.WellFormedLemmas.{sound-of, sound-differ, found-itself}
use Rattle.pool_model.proofs.laws.a_place_is_live_once.Goals as goal

pub returns : goal.returns
returns c = λ g history legal.
    every-All (λ block. block_at block.place (pool_of history) ≡ Some block) (pool_of history)
    (found-itself (pool_of history) (sound-differ g (pool_of history) (sound-of g history legal)))
