use Rattle.lane_engine.proofs.KeptLemmas.{cached-laws}
use Rattle.lane_engine.proofs.over_cache.CachedCallsCalls.calls_keep_blocks.Goals as goal

pub returns : goal.returns
returns c = record {
  keeps = λ s t call answer place need one. (cached-laws s.heap.now).keeps s.cache.now t.cache.now call answer place need one.0;
  back = λ s t place need shelf found at had one. (cached-laws s.heap.now).back s.cache.now t.cache.now place need shelf found at had one.0;
  hands = λ s t call answer place need one. (cached-laws s.heap.now).hands s.cache.now t.cache.now call answer place need one.0;
  apart = λ s t call answer place other need had one. (cached-laws s.heap.now).apart s.cache.now t.cache.now call answer place other need had one.0;
  serves = λ s t words place need one. (cached-laws s.heap.now).serves s.cache.now t.cache.now words place need one.0;
}
