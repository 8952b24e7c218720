use Rattle.std.proofs.Common.{◌++◌, refl}
use Rattle.errand_steps.specs.declared.reply.Reply.TheVariants as reply
use Rattle.errand_steps.specs.Calls.{read}
use Rattle.live_heap.proofs.laws_for_builders.Hands.{ended-hand}
use Rattle.block_cache.specs.Caches.{cached_in}
use Rattle.block_cache.proofs.AccountLemmas.{ended-all}
use Rattle.block_cache.proofs.CacheLemmas.{passed}
use Rattle.block_cache.proofs.cache.Cache.read.Goals as goal

pub returns-clause-cache : goal.returns-clause-cache
returns-clause-cache c =
    let s = c.args.self.now in
    let h = c.args.heap.now in
    let q = c.read.new.pass in
    passed h s q c.requires.cache
    (ended-hand h s.pass q (cached_in s) (read c.args.block.now.place c.args.block.now.need c.args.i) 0 (reply.Word c.read.result) c.requires.cache.hand.of c.read.ensures.of
    c.read.ensures.called (λ k d within. tt) (c.requires.cache.hand.holds c.requires.idle))

pub returns-clause-holds : goal.returns-clause-holds
returns-clause-holds c held holds =
    let s = c.args.self.now in
    let all = held ++ cached_in s in
    ended-all c.args.heap.now s.pass c.read.new.pass (read c.args.block.now.place c.args.block.now.need c.args.i) 0 (reply.Word c.read.result) all all
    c.requires.cache.hand.of c.read.ensures.of c.read.ensures.called refl (holds.at_rest c.requires.idle)
