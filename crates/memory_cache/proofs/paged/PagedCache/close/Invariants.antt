use Rattle.std.proofs.Common.{ℕ, ◌≡◌, ◌<◌, None, length}
use Rattle.memory_cache.specs.Paged.{HasSameOut, page_at}
use Rattle.memory_cache.proofs.paged.PagedCache.close.Given as goal

abbrev pub ghost-release : goal.ghost-release
ghost-release a = a.heap.now

abbrev pub invariant-loop-key : goal.invariant-loop-key
invariant-loop-key l = record {
  same : HasSameOut l.heap l.fn.self l.self;
  long : length l.self.pages.items ≡ length l.fn.self.pages.items;
  none : (k : ℕ) → k < l.key → page_at l.self k ≡ None;
}
