use Rattle.block_cache.specs.Caches.{Holds, IsCache}
use Rattle.embedding_tests.proofs.cached.come_to.Given as goal

abbrev pub invariant-loop-row : goal.invariant-loop-row
invariant-loop-row g l = record { cache : IsCache l.heap l.cache; holds : Holds l.cache l.held.items }
