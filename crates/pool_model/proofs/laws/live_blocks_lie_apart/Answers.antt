use Rattle.heap_geometry.specs.Place.{IsApart}
use Rattle.pool_model.specs.Pool.{span_of, pool_of}
use Rattle.pool_model.specs.WellFormed.{IsSeparate}
use Rattle.pool_model.proofs.PoolLemmas.{pairs-map, pairs-AllPairs}
use Rattle.pool_model.proofs.WellFormedLemmas.{sound-of}
use Rattle.pool_model.proofs.laws.live_blocks_lie_apart.Goals as goal

pub returns : goal.returns
returns c = λ g history legal.
    pairs-AllPairs (λ a b. IsApart (span_of a) (span_of b)) (pool_of history)
    (pairs-map IsSeparate (λ a b. IsApart (span_of a) (span_of b)) (pool_of history) (λ a b h. h.apart) (sound-of g history legal).pairs)
