use Rattle.std.proofs.Common.{ℕ, suc}
use Rattle.errand_steps.specs.Calls.{Call}
use Rattle.live_heap.specs.declared.pass.Pass.{Pass}
use Rattle.live_heap.specs.Calls.{IsCalling}
use Rattle.live_heap.specs.Passes.{IsOf}
use Rattle.live_heap.specs.Whole.{ResumesTo}
use Rattle.lane_engine.proofs.ThroughLemmas.{resume-ended, resumes-idle}
use Rattle.benches.proofs.heap.cached.go_on.Goals as goal

pub resume-requires-clause-under_way : goal.resume-requires-clause-under_way
resume-requires-clause-under_way g c =
    let w = c.requires.cache.hand.waits c.requires.under_way in (c.loop.invariant.calls w.first w.call w.steps w.of w.calling).1.busy

pub loop-preserved : goal.loop-preserved
loop-preserved g c = record {
  can_next = tt;
  is_finite = tt;
  cache = c.resume.ensures.cache;
  keeps = λ held h. c.in-Busy.ensures.holds held (c.loop.invariant.keeps held h);
  calls = λ first call made of was.
      let i = c.loop.invariant.calls first call made of was in
      let over = c.in-Busy.ensures.tells first call i.0 of i.1 in
      (suc over.steps, over.calling);
}

pub returns-in_default : goal.returns-in_default
returns-in_default g c =
    let told = c.resume.result in
    let q = c.resume.new.self.pass in
    let ends : (first : Pass) (call : Call) (made : ℕ) → IsOf c.args.heap.now first → IsCalling first call made c.args.cache.now.pass
    → ResumesTo first call told q =
    λ first call made of was.
    let i = c.loop.invariant.calls first call made of was in
    resume-ended first call i.0 c.loop.cache.pass c.args.tries told q c.in_default.not-Busy (c.resume.ensures.tells first call i.0 of i.1) in
    let w = c.requires.cache.hand.waits c.requires.under_way in
    record {
      rests = (c.resume.ensures.cache, resumes-idle w.first w.call told q (ends w.first w.call w.steps w.of w.calling));
      holds = λ held h. c.resume.ensures.holds held (c.loop.invariant.keeps held h);
      ended = ends;
    }
