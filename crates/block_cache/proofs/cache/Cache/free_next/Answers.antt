use Rattle.std.proofs.Common.{◌≢◌, ◌++◌, subst, sym}
use Rattle.std.specs.Prelude.{All}
use Rattle.live_heap.specs.declared.block.Block.{Block}
use Rattle.live_heap.specs.Holdings.{Holds}
use Rattle.live_heap.proofs.laws_for_builders.Hands.{free-hand, hand-left}
use Rattle.block_cache.specs.Caches.{cached_in}
use Rattle.block_cache.specs.Magazines.{all_in, stacks_of}
use Rattle.block_cache.proofs.AccountLemmas.{free-all, leaves-all}
use Rattle.block_cache.proofs.CacheLemmas.{refilled}
use Rattle.block_cache.proofs.cache.Cache.free_next.Goals as goal

pub free-requires-clause-owned : goal.free-requires-clause-owned
free-requires-clause-owned c =
    let s = c.args.self.now in
    let split = c.in_ok-block.ensures.splits in
    (hand-left s.pass split.front split.back c.in_ok-block.block
    (subst (Holds s.pass) split.with_it (c.requires.cache.hand.holds c.requires.idle))).0

pub returns-clause-cache : goal.returns-clause-cache
returns-clause-cache c =
    let s = c.args.self.now in
    let split = c.in_ok-block.ensures.splits in
    let h = c.args.heap.now in
    let m = c.pop_first.new.self in
    let b = c.in_ok-block.block in
    let out =
    hand-left s.pass split.front split.back b (subst (Holds s.pass) split.with_it (c.requires.cache.hand.holds c.requires.idle)) in
    refilled h s c.free.new.pass m s.hits c.requires.cache c.pop_first.ensures.depth c.pop_first.ensures.ready
    (free-hand h s.pass c.free.new.pass (all_in (stacks_of m.stacks.items)) b c.args.tries c.free.result c.requires.cache.hand.of
    (subst (All (λ (other : Block). other.place ≢ b.place)) (sym split.without_it) out.1)
    (subst (Holds s.pass) (sym split.without_it) out.2) c.free.ensures.of c.free.ensures.tells)

pub returns-clause-holds : goal.returns-clause-holds
returns-clause-holds c held holds =
    let s = c.args.self.now in
    let split = c.in_ok-block.ensures.splits in
    let m = c.pop_first.new.self in
    let b = c.in_ok-block.block in
    free-all c.args.heap.now s.pass c.free.new.pass b (held ++ all_in (stacks_of m.stacks.items)) c.args.tries c.free.result c.requires.idle
    c.requires.cache.hand.of c.free.ensures.of c.free.ensures.tells
    (leaves-all s.pass held (cached_in s) (all_in (stacks_of m.stacks.items)) b split c.requires.idle holds)
