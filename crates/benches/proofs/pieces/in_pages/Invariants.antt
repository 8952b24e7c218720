use Rattle.memory_cache.specs.Paged.{IsPaged}
use Rattle.benches.proofs.pieces.in_pages.Given as goal

abbrev pub invariant-loop-round : goal.invariant-loop-round
invariant-loop-round l = IsPaged l.heap l.cache
