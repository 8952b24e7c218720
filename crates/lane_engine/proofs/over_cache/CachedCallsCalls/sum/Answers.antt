use Rattle.sound_laws.specs.events.Made.{found_from}
use Rattle.lane_engine.proofs.ThroughLemmas.{words-lead}
use Rattle.lane_engine.proofs.over_cache.CachedCallsCalls.sum.Goals as goal

pub returns-clause-stands : goal.returns-clause-stands
returns-clause-stands c = (c.sum.ensures.cache, c.sum.ensures.idle)

pub returns-clause-called : goal.returns-clause-called
returns-clause-called c =
    let e = c.args.self.now in
    let b = c.args.held.now in
    let d = c.sum.new.self in
    let sums =
    c.calls_on_words_are_whole.ensures.sum e.heap.now e.cache.now d b.place b.need c.sum.result c.requires.stands c.requires.owned c.sum.ensures.sums
    c.sum.ensures.keeps in
    (sums.0, sums.1, sums.2, words-lead e e.cache.now d (found_from b.place b.need 0 sums.0) sums.3)
