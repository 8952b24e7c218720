use Rattle.block_cache.specs.Caches.{cached_in}
use Rattle.block_cache.specs.Magazines.{all_in, stacks_of}
use Rattle.block_cache.proofs.AccountLemmas.{comes-all}
use Rattle.block_cache.proofs.CacheLemmas.{comes-hand, refilled}
use Rattle.block_cache.proofs.cache.Cache.keep.Goals as goal

pub returns-clause-cache : goal.returns-clause-cache
returns-clause-cache c h is =
    let s = c.args.self.now in
    let m = c.push.new.self in
    refilled h s s.pass m s.hits is c.push.ensures.depth c.push.ensures.ready
    (comes-hand h s.pass (all_in (stacks_of m.stacks.items)) (cached_in s) c.args.block c.push.ensures.splits c.requires.idle c.requires.held.0 c.requires.held.1 is.hand)

pub returns-clause-holds : goal.returns-clause-holds
returns-clause-holds c held holds =
    let s = c.args.self.now in
    let m = c.push.new.self in
    comes-all s.pass held (all_in (stacks_of m.stacks.items)) (cached_in s) c.args.block c.push.ensures.splits c.requires.idle holds
