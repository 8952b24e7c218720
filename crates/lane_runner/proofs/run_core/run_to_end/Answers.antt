use Rattle.std.proofs.Common.{◌+◌, if◌then◌else◌, Bool, Ok, ap, subst}
use Rattle.trace_lane.specs.Advances.{AdvancesOn}
use Rattle.lane_runner.proofs.RunLemmas.{ran-none, next-ran}
use Rattle.lane_runner.proofs.RunMeasures.{advance-falls}
use Rattle.lane_runner.proofs.OrderLemmas.{on-err}
use Rattle.lane_runner.proofs.run_core.run_to_end.Goals as goal

pub loop-init : goal.loop-init
loop-init g c = (0, ran-none c.requires.stands)

pub advance-requires-clause-stands : goal.advance-requires-clause-stands
advance-requires-clause-stands g c = c.loop.invariant.1.stands

pub returns-then-not-branch-clause-ran : goal.returns-then-not-branch-clause-ran
returns-then-not-branch-clause-ran g c =
    let now = c.in_ok-advance.ensures in
    let made = c.in_ok-advance.field-0 in
    let ran = next-ran c.loop.invariant.1 now.advanced in
    let end = now.ended (ap Ok c.if-not-branch.true) in
    record {
      made = c.loop.invariant.0 + (if made then 1 else 0);
      ran = ran;
      ended = record { between = end.0; all = end.1 };
    }

pub loop-smaller : goal.loop-smaller
loop-smaller g c =
    let passed = g.G.Gate.passed c.args.gate.now in
    let P = λ (b : Bool). AdvancesOn passed c.args.operations.now c.loop.core c.advance.new.core c.loop.lane c.advance.new.self b in
    advance-falls passed c.loop.core c.advance.new.core c.args.operations.now c.loop.lane c.advance.new.self c.loop.invariant.1.stands
    (subst P c.if-not-branch.false c.in_ok-advance.ensures.advanced)

pub loop-preserved : goal.loop-preserved
loop-preserved g c =
    let now = c.in_ok-advance.ensures in
    let made = c.in_ok-advance.field-0 in
    let ran = next-ran c.loop.invariant.1 now.advanced in
    (c.loop.invariant.0 + (if made then 1 else 0), ran)

pub returns-in_err-advance-clause-stopped : goal.returns-in_err-advance-clause-stopped
returns-in_err-advance-clause-stopped g c =
    let ran = next-ran c.loop.invariant.1 c.in_err-advance.ensures.failed in
    on-err c.from_residual.result _ (c.loop.invariant.0 + 0, ran)
