use Rattle.std.proofs.Common.{[], replicate, sym, subst}
use Rattle.live_heap.specs.declared.pass.Pass.{Pass}
use Rattle.live_heap.specs.Holdings.{HoldsExactly}
use Rattle.memory_cache.proofs.PagedLemmas.{opened}
use Rattle.memory_cache.proofs.paged.PagedCache.open.Goals as goal

pub returns-clause-paged : goal.returns-clause-paged
returns-clause-paged c = λ h settled exact.
    opened h (record { cache = c.in_ok-cache.cache; pages = c.new.result; ready = replicate 35 4294967295; hits = 0; alloc = c.args.alloc })
    (c.in_ok-cache.ensures.cache h settled) (subst (λ (p : Pass). HoldsExactly p []) (sym c.in_ok-cache.ensures.pass) exact) c.new.ensures.items
