use Rattle.memory_cache.proofs.paged.PagedCache.cut.Given as goal

abbrev pub ghost-cut : goal.ghost-cut
ghost-cut g a = g.h
