use Rattle.memory_cache.proofs.paged.PagedCache.release.Given as goal

abbrev pub ghost-into_memory : goal.ghost-into_memory
ghost-into_memory g a = g.h
