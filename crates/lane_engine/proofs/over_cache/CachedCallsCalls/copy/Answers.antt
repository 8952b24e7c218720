use Rattle.heap_geometry.specs.Need.{usable_words}
use Rattle.sound_laws.specs.events.Made.{copied}
use Rattle.lane_engine.proofs.ThroughLemmas.{words-lead}
use Rattle.lane_engine.proofs.over_cache.CachedCallsCalls.copy.Goals as goal

pub returns-clause-stands : goal.returns-clause-stands
returns-clause-stands c = (c.copy.ensures.cache, c.copy.ensures.idle)

pub returns-clause-called : goal.returns-clause-called
returns-clause-called c =
    let e = c.args.self.now in
    let from = c.args.from.now in
    let to = c.args.to.now in
    let d = c.copy.new.self in
    let copies =
    c.calls_on_words_are_whole.ensures.copy e.heap.now e.cache.now d from.place from.need to.place to.need c.requires.stands c.requires.owned
    c.requires.owned_too c.copy.ensures.copied c.copy.ensures.keeps in
    (copies.0, copies.1, words-lead e e.cache.now d (copied from.place from.need to.place to.need copies.0 (usable_words to.need)) copies.2)
