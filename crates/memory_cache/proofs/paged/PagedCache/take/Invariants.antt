use Rattle.memory_cache.proofs.paged.PagedCache.take.Given as goal

abbrev pub ghost-take_page : goal.ghost-take_page
ghost-take_page a = a.heap.now
