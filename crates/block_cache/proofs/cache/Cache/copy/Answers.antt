use Rattle.std.proofs.Common.{refl}
use Rattle.heap_geometry.specs.Need.{usable_words}
use Rattle.sound_laws.specs.events.Made.{copied}
use Rattle.block_cache.proofs.WordLemmas.{copied-on, goes-on}
use Rattle.block_cache.proofs.cache.Cache.copy.Goals as goal

pub returns : goal.returns
returns c =
    let s = c.args.self.now in
    let from = c.args.from.now in
    let to = c.args.to.now in
    let copies = c.copy.ensures.copied in
    let count = usable_words to.need in
    let on =
    goes-on c.args.heap.now s (copied from.place from.need to.place to.need copies.0 count) c.copy.new.pass (c.requires.cache, c.requires.idle)
    (copied-on s from.place from.need to.place to.need c.requires.held c.requires.held_too copies.0 count) copies.2 in
    record { cache = on.rests.0; idle = on.rests.1; copied = copies; keeps = record { magazines = refl; hits = refl }; holds = on.holds }
