use Rattle.memory_cache.proofs.paged.PagedCache.take_page.Given as goal

abbrev pub ghost-cut : goal.ghost-cut
ghost-cut g a = g.h
