use Rattle.heap_geometry.specs.Need.{usable_words}
use Rattle.sound_laws.specs.events.Made.{wrote}
use Rattle.lane_engine.proofs.ThroughLemmas.{words-lead}
use Rattle.lane_engine.proofs.over_cache.CachedCallsCalls.fill.Goals as goal

pub returns-clause-stands : goal.returns-clause-stands
returns-clause-stands c = (c.fill.ensures.cache, c.fill.ensures.idle)

pub returns-clause-called : goal.returns-clause-called
returns-clause-called c =
    let e = c.args.self.now in
    let b = c.args.held.now in
    let d = c.fill.new.self in
    let count = usable_words b.need in
    words-lead e e.cache.now d (wrote b.place b.need c.args.from count)
    (c.calls_on_words_are_whole.ensures.fill e.heap.now e.cache.now d b.place b.need c.args.from count c.requires.stands c.requires.owned c.fill.ensures.wrote
    c.fill.ensures.keeps)
