use Rattle.std.proofs.Common.{refl}
use Rattle.heap_geometry.specs.Need.{usable_words}
use Rattle.sound_laws.specs.events.Made.{wrote}
use Rattle.block_cache.proofs.WordLemmas.{goes-on, wrote-on}
use Rattle.block_cache.proofs.cache.Cache.fill.Goals as goal

pub returns : goal.returns
returns c =
    let b = c.args.block.now in
    let from = c.args.from in
    let count = usable_words b.need in
    let on =
    goes-on c.args.heap.now c.args.self.now (wrote b.place b.need from count) c.fill.new.pass (c.requires.cache, c.requires.idle)
    (wrote-on c.args.self.now b.place b.need from count c.requires.held) c.fill.ensures.wrote in
    record { cache = on.rests.0; idle = on.rests.1; wrote = c.fill.ensures.wrote; keeps = record { magazines = refl; hits = refl }; holds = on.holds }
