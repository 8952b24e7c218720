use Rattle.block_cache.specs.Whole.{RestsAt}
use Rattle.lane_engine.proofs.FlushLemmas.{EmptiesSoFar}
use Rattle.lane_engine.proofs.over_cache.empty.Given as goal

abbrev pub invariant-loop : goal.invariant-loop
invariant-loop g l = record {
  can_next : (goal.iterator-loop g).can_next l.iterator';
  is_finite : (goal.iterator-loop g).is_finite l.iterator';
  rests : RestsAt l.heap l.cache;
  so_far : EmptiesSoFar l.heap l.fn.cache l.cache;
}
