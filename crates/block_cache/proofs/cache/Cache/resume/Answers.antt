use Rattle.live_heap.specs.Hands.{resumed_by}
use Rattle.std.proofs.Common.{◌++◌}
use Rattle.live_heap.proofs.laws_for_builders.Hands.{waiting-hand}
use Rattle.block_cache.specs.Caches.{cached_in}
use Rattle.block_cache.proofs.AccountLemmas.{waiting-all, regroup}
use Rattle.block_cache.proofs.CacheLemmas.{hand-front, passed, resumable}
use Rattle.block_cache.proofs.cache.Cache.resume.Goals as goal

pub resume-requires-clause-under_way : goal.resume-requires-clause-under_way
resume-requires-clause-under_way c = resumable c.args.heap.now c.args.self.now c.requires.cache c.requires.under_way

pub returns-clause-cache : goal.returns-clause-cache
returns-clause-cache c =
    let s = c.args.self.now in
    let h = c.args.heap.now in
    let q = c.resume.new.pass in
    passed h s q c.requires.cache
    (hand-front h q (cached_in s) _
    (waiting-hand h s.pass q (cached_in s) c.args.tries c.resume.result (c.requires.cache.hand.waits c.requires.under_way)
    c.resume.ensures.of c.resume.ensures.tells))

pub returns-clause-holds : goal.returns-clause-holds
returns-clause-holds c held holds =
    let s = c.args.self.now in
    regroup c.resume.new.pass (resumed_by c.resume.result) held (cached_in s)
    (waiting-all c.args.heap.now s.pass c.resume.new.pass (held ++ cached_in s) c.args.tries c.resume.result c.requires.under_way
    c.requires.cache.hand.of c.resume.ensures.of c.resume.ensures.tells holds)
