use Rattle.std.proofs.Common.{sym}
use Rattle.memory_cache.specs.Caches.{kept_in}
use Rattle.block_cache.specs.Magazines.{all_in, stacks_of}
use Rattle.memory_cache.proofs.KeptLemmas.{apart-comes, apart-leaves, piece-leaves, refilled}
use Rattle.memory_cache.proofs.cache.MemoryCache.serve.Goals as goal

pub returns-clause-cache : goal.returns-clause-cache
returns-clause-cache c h is =
    let s = c.args.self.now in
    let m = c.pop.new.self in
    let piece = piece-leaves h s.pass c.pop.result (kept_in s) (all_in (stacks_of m.stacks.items)) c.pop.ensures.splits is.kept in
    (refilled h s s.pass m c.saturating_add-self.result is is.pass c.pop.ensures.depth c.pop.ensures.ready piece.2, piece.0.0)

pub returns-clause-held : goal.returns-clause-held
returns-clause-held c =
    let s = c.args.self.now in
    let m = c.pop.new.self in
    let is = c.requires.cached in
    let piece = piece-leaves is.0 s.pass c.pop.result (kept_in s) (all_in (stacks_of m.stacks.items)) c.pop.ensures.splits is.1.kept in
    (piece.0.1, piece.1)

pub returns-clause-apart : goal.returns-clause-apart
returns-clause-apart c other held =
    let s = c.args.self.now in
    let m = c.pop.new.self in
    λ same. (apart-leaves other c.pop.result (kept_in s) (all_in (stacks_of m.stacks.items)) c.pop.ensures.splits held.1).0 (sym same)

pub returns-clause-keeps : goal.returns-clause-keeps
returns-clause-keeps c other held =
    let s = c.args.self.now in
    let m = c.pop.new.self in
    (held.0, (apart-leaves other c.pop.result (kept_in s) (all_in (stacks_of m.stacks.items)) c.pop.ensures.splits held.1).1)

pub returns-clause-only : goal.returns-clause-only
returns-clause-only c other held ne =
    let s = c.args.self.now in
    let m = c.pop.new.self in
    (held.0, apart-comes other c.pop.result (kept_in s) (all_in (stacks_of m.stacks.items)) c.pop.ensures.splits (λ same. ne (sym same)) held.1)
