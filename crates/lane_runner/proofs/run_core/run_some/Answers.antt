use Rattle.std.proofs.Common.{◌≡◌, ◌+◌, if◌then◌else◌, Bool, Ok, ap, ◌∙◌, subst, arith}
use Rattle.lane_runner.specs.Running.{HasRun}
use Rattle.lane_runner.proofs.RunLemmas.{ran-none, next-ran}
use Rattle.lane_runner.proofs.OrderLemmas.{on-err}
use Rattle.lane_runner.proofs.run_core.run_some.Goals as goal

pub loop-step-init : goal.loop-step-init
loop-step-init g c = ran-none c.requires.stands

pub advance-requires-clause-stands : goal.advance-requires-clause-stands
advance-requires-clause-stands g c = c.loop-step.invariant.stands

pub returns-then-not-branch-clause-ran : goal.returns-then-not-branch-clause-ran
returns-then-not-branch-clause-ran g c =
    let now = c.in_ok-advance.ensures in
    let made = c.in_ok-advance.field-0 in
    let ran = next-ran c.loop-step.invariant now.advanced in
    let same : c.loop-step._step + (if made then 1 else 0) ≡ c.loop-step._step =
    ap (λ (b : Bool). c.loop-step._step + (if b then 1 else 0)) c.if-not-branch.true ∙ omega arith in
    let end = now.ended (ap Ok c.if-not-branch.true) in
    record {
      made = c.loop-step._step + (if made then 1 else 0);
      ran = ran;
      most = omega (arith, same, c.loop-step-test.true);
      ended = λ lt. record { between = end.0; all = end.1 };
    }

pub loop-step-preserved : goal.loop-step-preserved
loop-step-preserved g c =
    let now = c.in_ok-advance.ensures in
    let made = c.in_ok-advance.field-0 in
    let ran = next-ran c.loop-step.invariant now.advanced in
    let P = λ (b : Bool).
    HasRun (g.G.Gate.passed c.args.gate.now) c.args.core.now c.advance.new.core c.args.operations.now c.args.lane.now c.advance.new.self
    (c.loop-step._step + (if b then 1 else 0)) in
    subst P c.if-not-branch.false ran

pub returns-clause-ran : goal.returns-clause-ran
returns-clause-ran g c = record {
  made = c.loop-step._step;
  ran = c.loop-step.invariant;
  most = omega arith;
  ended = λ lt. absurd (omega (arith, lt, c.loop-step-test.false));
}

pub returns-in_err-advance-clause-stopped : goal.returns-in_err-advance-clause-stopped
returns-in_err-advance-clause-stopped g c =
    let ran = next-ran c.loop-step.invariant c.in_err-advance.ensures.failed in
    on-err c.from_residual.result _ (c.loop-step._step + 0, ran, omega (arith, c.loop-step-test.true))
