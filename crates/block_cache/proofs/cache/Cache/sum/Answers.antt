use Rattle.std.proofs.Common.{refl}
use Rattle.sound_laws.specs.events.Made.{found_from}
use Rattle.block_cache.proofs.WordLemmas.{found-on, goes-on}
use Rattle.block_cache.proofs.cache.Cache.sum.Goals as goal

pub returns : goal.returns
returns c =
    let b = c.args.block.now in
    let sums = c.sum.ensures.sums in
    let on =
    goes-on c.args.heap.now c.args.self.now (found_from b.place b.need 0 sums.0) c.sum.new.pass (c.requires.cache, c.requires.idle)
    (found-on c.args.self.now b.place b.need 0 sums.0 c.requires.held) sums.3 in
    record { cache = on.rests.0; idle = on.rests.1; sums = sums; keeps = record { magazines = refl; hits = refl }; holds = on.holds }
