use Rattle.live_heap.specs.Hands.{taken_by}
use Rattle.live_heap.proofs.laws_for_builders.Hands.{take-hand}
use Rattle.block_cache.specs.Caches.{cached_in}
use Rattle.std.proofs.Common.{◌++◌}
use Rattle.block_cache.proofs.AccountLemmas.{take-all, regroup}
use Rattle.block_cache.proofs.CacheLemmas.{hand-front, passed}
use Rattle.block_cache.proofs.cache.Cache.take.Goals as goal

pub returns-clause-cache : goal.returns-clause-cache
returns-clause-cache c =
    let s = c.args.self.now in
    let h = c.args.heap.now in
    let q = c.take.new.pass in
    passed h s q c.requires.cache
    (hand-front h q (cached_in s) _
    (take-hand h s.pass q (cached_in s) c.args.shelf c.take.result c.requires.cache.hand.of
    (c.requires.cache.hand.holds c.requires.idle) c.take.ensures.of c.take.ensures.tells))

pub returns-clause-holds : goal.returns-clause-holds
returns-clause-holds c held holds =
    let s = c.args.self.now in
    regroup c.take.new.pass (taken_by c.take.result) held (cached_in s)
    (take-all c.args.heap.now s.pass c.take.new.pass (held ++ cached_in s) c.args.shelf c.take.result c.requires.idle
    c.requires.cache.hand.of c.take.ensures.of c.take.ensures.tells holds)
