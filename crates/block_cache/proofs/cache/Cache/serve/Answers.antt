use Rattle.block_cache.specs.Caches.{cached_in}
use Rattle.block_cache.specs.Magazines.{all_in, stacks_of}
use Rattle.block_cache.proofs.AccountLemmas.{leaves-all}
use Rattle.block_cache.proofs.CacheLemmas.{leaves-hand, refilled}
use Rattle.block_cache.proofs.cache.Cache.serve.Goals as goal

pub returns-clause-cache : goal.returns-clause-cache
returns-clause-cache c h is =
    let s = c.args.self.now in
    let m = c.pop.new.self in
    refilled h s s.pass m c.saturating_add-self.result is c.pop.ensures.depth c.pop.ensures.ready
    (leaves-hand h s.pass (cached_in s) (all_in (stacks_of m.stacks.items)) c.pop.result c.pop.ensures.splits c.requires.idle is.hand)

pub returns-clause-holds : goal.returns-clause-holds
returns-clause-holds c held holds =
    let s = c.args.self.now in
    let m = c.pop.new.self in
    leaves-all s.pass held (cached_in s) (all_in (stacks_of m.stacks.items)) c.pop.result c.pop.ensures.splits c.requires.idle holds
