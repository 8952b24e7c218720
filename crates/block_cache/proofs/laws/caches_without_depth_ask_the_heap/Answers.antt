use Rattle.block_cache.proofs.WholeLemmas.{no-depth}
use Rattle.block_cache.proofs.laws.caches_without_depth_ask_the_heap.Goals as goal

pub returns : goal.returns
returns c = no-depth
