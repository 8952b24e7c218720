use Rattle.memory_cache.proofs.paged.PagedCache.settle_page.Given as goal

abbrev pub ghost-release : goal.ghost-release
ghost-release a = a.heap.now
