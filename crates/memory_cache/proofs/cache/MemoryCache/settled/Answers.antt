use Rattle.memory_cache.proofs.KeptLemmas.{settled-cache}
use Rattle.memory_cache.proofs.cache.MemoryCache.settled.Goals as goal

pub returns-clause-cache : goal.returns-clause-cache
returns-clause-cache c =
    settled-cache c.args.heap.now c.args.self.now c.settle.new.pass c.requires.cache c.settle.ensures.tells.pass c.settle.ensures.out
