use Rattle.live_heap.specs.Hands.{given_by}
use Rattle.std.proofs.Common.{◌++◌, refl, sym, ◌∙◌}
use Rattle.live_heap.proofs.laws_for_builders.Hands.{alloc-hand}
use Rattle.block_cache.specs.Caches.{cached_in}
use Rattle.block_cache.proofs.AccountLemmas.{alloc-all, regroup}
use Rattle.block_cache.proofs.CacheLemmas.{hand-front, passed}
use Rattle.block_cache.proofs.cache.Cache.alloc.Goals as goal

pub returns-then-count-gt0-clause-cache : goal.returns-then-count-gt0-clause-cache
returns-then-count-gt0-clause-cache c = c.serve.ensures.cache c.args.heap.now c.requires.cache

pub returns-then-count-gt0-clause-served : goal.returns-then-count-gt0-clause-served
returns-then-count-gt0-clause-served c has =
    (c.serve.result, refl, c.serve.ensures.served c.args.need (sym c.class_of.ensures.value ∙ c.in-Small.is))

pub returns-clause-cache : goal.returns-clause-cache
returns-clause-cache c =
    let s = c.args.self.now in
    let h = c.args.heap.now in
    let q = c.alloc.new.pass in
    passed h s q c.requires.cache
    (hand-front h q (cached_in s) _
    (alloc-hand h s.pass q (cached_in s) c.args.need c.args.tries c.alloc.result c.requires.cache.hand.of c.requires.idle
    (c.requires.cache.hand.holds c.requires.idle) c.alloc.ensures.of c.alloc.ensures.tells))

pub returns-clause-holds : goal.returns-clause-holds
returns-clause-holds c held holds =
    let s = c.args.self.now in
    regroup c.alloc.new.pass (given_by c.alloc.result) held (cached_in s)
    (alloc-all c.args.heap.now s.pass c.alloc.new.pass (held ++ cached_in s) c.args.need c.args.tries c.alloc.result c.requires.idle
    c.requires.cache.hand.of c.alloc.ensures.of c.alloc.ensures.tells holds)
