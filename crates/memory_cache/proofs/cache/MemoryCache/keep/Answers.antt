use Rattle.std.proofs.Common.{sym}
use Rattle.memory_cache.specs.Caches.{kept_in}
use Rattle.block_cache.specs.Magazines.{all_in, stacks_of}
use Rattle.memory_cache.proofs.KeptLemmas.{apart-comes, apart-leaves, piece-comes, refilled}
use Rattle.memory_cache.proofs.cache.MemoryCache.keep.Goals as goal

pub returns-clause-cache : goal.returns-clause-cache
returns-clause-cache c h is room =
    let s = c.args.self.now in
    let m = c.push.new.self in
    refilled h s s.pass m s.hits is is.pass c.push.ensures.depth c.push.ensures.ready
    (piece-comes h s.pass c.args.memory (all_in (stacks_of m.stacks.items)) (kept_in s) c.push.ensures.splits ((room, c.requires.held.0), c.requires.held.1, is.kept))

pub returns-clause-keeps : goal.returns-clause-keeps
returns-clause-keeps c other held ne =
    let s = c.args.self.now in
    let m = c.push.new.self in
    (held.0, apart-comes other c.args.memory (all_in (stacks_of m.stacks.items)) (kept_in s) c.push.ensures.splits (λ same. ne (sym same)) held.1)

pub returns-clause-only : goal.returns-clause-only
returns-clause-only c other held =
    let s = c.args.self.now in
    let m = c.push.new.self in
    let left = apart-leaves other c.args.memory (all_in (stacks_of m.stacks.items)) (kept_in s) c.push.ensures.splits held.1 in
    ((held.0, left.1), λ same. left.0 (sym same))
