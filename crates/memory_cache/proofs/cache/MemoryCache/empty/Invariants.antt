use Rattle.std.proofs.Common.{◌≡◌, length}
use Rattle.live_heap.specs.declared.plain.Memory.{Memory}
use Rattle.memory_cache.specs.Caches.{IsCache, IsHeld, kept_in}
use Rattle.memory_cache.proofs.cache.MemoryCache.empty.Given as goal

abbrev pub invariant-loop-self : goal.invariant-loop-self
invariant-loop-self l = record {
  cache : IsCache l.heap l.self;
  keeps : (other : Memory) → IsHeld l.fn.self other → IsHeld l.self other;
  only : (other : Memory) → IsHeld l.self other → IsHeld l.fn.self other;
  caller : l.self.pass.errand.caller ≡ l.fn.self.pass.errand.caller;
  hits : l.self.hits ≡ l.fn.self.hits;
}

abbrev pub decreases-loop-self : goal.decreases-loop-self
decreases-loop-self l = length (kept_in l.self)
