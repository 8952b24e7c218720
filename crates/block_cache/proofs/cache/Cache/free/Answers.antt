use Rattle.std.proofs.Common.{◌++◌}
use Rattle.live_heap.proofs.laws_for_builders.Hands.{free-hand}
use Rattle.block_cache.specs.Caches.{cached_in}
use Rattle.block_cache.proofs.AccountLemmas.{free-all}
use Rattle.block_cache.proofs.CacheLemmas.{passed}
use Rattle.block_cache.proofs.cache.Cache.free.Goals as goal

pub returns-then-count-depth-clause-cache : goal.returns-then-count-depth-clause-cache
returns-then-count-depth-clause-cache c = c.keep.ensures.cache c.args.heap.now c.requires.cache

pub returns-clause-cache : goal.returns-clause-cache
returns-clause-cache c =
    let s = c.args.self.now in
    let h = c.args.heap.now in
    let q = c.free.new.pass in
    passed h s q c.requires.cache
    (free-hand h s.pass q (cached_in s) c.args.block c.args.tries c.free.result c.requires.cache.hand.of c.requires.held.1
    (c.requires.cache.hand.holds c.requires.idle) c.free.ensures.of c.free.ensures.tells)

pub returns-clause-holds : goal.returns-clause-holds
returns-clause-holds c held holds =
    let s = c.args.self.now in
    free-all c.args.heap.now s.pass c.free.new.pass c.args.block (held ++ cached_in s) c.args.tries c.free.result c.requires.idle
    c.requires.cache.hand.of c.free.ensures.of c.free.ensures.tells holds
