use Rattle.std.proofs.Common.{ℕ, suc}
use Rattle.errand_steps.specs.Calls.{Call}
use Rattle.live_heap.specs.declared.pass.Pass.{Pass}
use Rattle.live_heap.specs.Calls.{IsCalling}
use Rattle.live_heap.specs.Passes.{IsOf}
use Rattle.live_heap.specs.Whole.{ResumesTo}
use Rattle.lane_engine.proofs.ThroughLemmas.{resume-ended, resumes-idle}
use Rattle.pipe_runner.proofs.whole.go_on.Goals as goal

pub resume-requires-clause-under_way : goal.resume-requires-clause-under_way
resume-requires-clause-under_way g c =
    let r = c.requires.under_way.0 in
    let n = c.loop.invariant.calls r.first r.call r.steps c.requires.under_way.1 r.calling in
    record { first = r.first; call = r.call; steps = n.0; calling = n.1; tried = r.tried }

pub loop-preserved : goal.loop-preserved
loop-preserved g c = record {
  can_next = tt;
  is_finite = tt;
  of = c.resume.ensures.of;
  calls = λ first call made of was.
      let i = c.loop.invariant.calls first call made of was in
      let over = c.in-Busy.ensures.tells first call i.0 of i.1 in
      (suc over.steps, over.calling);
}

pub returns-in_default : goal.returns-in_default
returns-in_default g c =
    let tells = c.resume.ensures.tells in
    let calls = c.loop.invariant.calls in
    let told = c.resume.result in
    let q = c.resume.new.pass in
    let ends : (first : Pass) (call : Call) (made : ℕ) → IsOf c.args.heap.now first → IsCalling first call made c.args.pass.now
    → ResumesTo first call told q =
    λ first call made of was.
    let i = calls first call made of was in
    resume-ended first call i.0 c.loop.pass _ told q c.in_default.not-Busy (tells first call i.0 of i.1) in
    let r = c.requires.under_way.0 in
    record {
      rests = (c.resume.ensures.of, resumes-idle r.first r.call told q (ends r.first r.call r.steps c.requires.under_way.1 r.calling));
      ended = ends;
    }
