use Rattle.std.proofs.Common.{refl}
use Rattle.live_heap.specs.Memory.{writes_from}
use Rattle.block_cache.proofs.WordLemmas.{goes-on, written-on}
use Rattle.block_cache.proofs.cache.Cache.write_slice.Goals as goal

pub returns : goal.returns
returns c =
    let b = c.args.block.now in
    let words = c.args.from.now in
    let on =
    goes-on c.args.heap.now c.args.self.now (writes_from b.place b.need c.args.first words) c.write_slice.new.pass (c.requires.cache, c.requires.idle)
    (written-on c.args.self.now b.place b.need c.args.first words c.requires.held) c.write_slice.ensures.wrote in
    record {
      cache = on.rests.0;
      idle = on.rests.1;
      wrote = c.write_slice.ensures.wrote;
      keeps = record { magazines = refl; hits = refl };
      holds = on.holds;
    }
