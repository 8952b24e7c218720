use Rattle.std.proofs.Common.{◌≡◌, ◌+◌, ◌-◌, length}
use Rattle.memory_cache.specs.Paged.{HasSamePages}
use Rattle.memory_cache.proofs.paged.PagedCache.grow.Given as goal

abbrev pub invariant-loop-self : goal.invariant-loop-self
invariant-loop-self l = record {
  same : HasSamePages l.fn.self l.self;
  hits : l.self.hits ≡ l.fn.self.hits;
}

abbrev pub decreases-loop-self : goal.decreases-loop-self
decreases-loop-self l = l.key + 1 - length l.self.pages.items
