use Rattle.std.proofs.Common.{refl}
use Rattle.sound_laws.specs.events.Made.{found_from}
use Rattle.block_cache.proofs.WordLemmas.{found-on, goes-on}
use Rattle.block_cache.proofs.cache.Cache.read_slice.Goals as goal

pub returns : goal.returns
returns c =
    let b = c.args.block.now in
    let made = found_from b.place b.need c.args.first c.read_slice.new.into in
    let on =
    goes-on c.args.heap.now c.args.self.now made c.read_slice.new.pass (c.requires.cache, c.requires.idle)
    (found-on c.args.self.now b.place b.need c.args.first c.read_slice.new.into c.requires.held) c.read_slice.ensures.found in
    record {
      cache = on.rests.0;
      idle = on.rests.1;
      long = c.read_slice.ensures.long;
      found = c.read_slice.ensures.found;
      keeps = record { magazines = refl; hits = refl };
      holds = on.holds;
    }
