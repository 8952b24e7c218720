use Rattle.memory_cache.proofs.cache.MemoryCache.give.Goals as goal

pub returns-then-count-depth-clause-cache : goal.returns-then-count-depth-clause-cache
returns-then-count-depth-clause-cache c = c.keep.ensures.cache c.args.heap.now c.requires.cache c.requires.room
