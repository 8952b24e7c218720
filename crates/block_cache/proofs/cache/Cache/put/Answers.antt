use Rattle.live_heap.specs.Hands.{returned_by}
use Rattle.live_heap.proofs.laws_for_builders.Hands.{put-hand}
use Rattle.block_cache.specs.Caches.{cached_in}
use Rattle.std.proofs.Common.{◌++◌}
use Rattle.block_cache.proofs.AccountLemmas.{put-all, regroup}
use Rattle.block_cache.proofs.CacheLemmas.{hand-front, passed}
use Rattle.block_cache.proofs.cache.Cache.put.Goals as goal

pub returns-clause-cache : goal.returns-clause-cache
returns-clause-cache c =
    let s = c.args.self.now in
    let h = c.args.heap.now in
    let q = c.put.new.pass in
    passed h s q c.requires.cache
    (hand-front h q (cached_in s) _
    (put-hand h s.pass q (cached_in s) c.args.block c.args.shelf c.put.result c.requires.cache.hand.of c.requires.held.1
    (c.requires.cache.hand.holds c.requires.idle) c.put.ensures.of c.put.ensures.put c.put.ensures.full))

pub returns-clause-holds : goal.returns-clause-holds
returns-clause-holds c held holds =
    let s = c.args.self.now in
    regroup c.put.new.pass (returned_by c.put.result) held (cached_in s)
    (put-all c.args.heap.now s.pass c.put.new.pass c.args.block (held ++ cached_in s) c.args.shelf c.put.result c.requires.idle
    c.requires.cache.hand.of c.put.ensures.of c.put.ensures.put c.put.ensures.full holds)
