use Rattle.std.proofs.Common.{ℕ, ◌≡◌, length, subst, arith}
use Rattle.lane_runner.specs.Running.{HaveFinished}
use Rattle.lane_runner.proofs.OrderLemmas.{finished-none, on-err}
use Rattle.lane_runner.proofs.run_core.finish_lanes.Goals as goal

pub loop-lane-init : goal.loop-lane-init
loop-lane-init g c = finished-none c.requires.run

pub returns-clause-ran : goal.returns-clause-ran
returns-clause-ran g c =
    let all : c.loop-lane.lane ≡ length c.args.trace.now.lanes =
    omega (arith, c.loop-lane-test.false, c.loop-lane.auto.lane-end, c.len-lane-end.ensures) in
    let P = λ (n : ℕ). HaveFinished (g.G.Gate.passed c.args.gate.now) c.args.trace.now n c.loop-lane.core c.loop-lane.lanes.items in
    subst P all c.loop-lane.invariant

pub returns-in_err-finish_lane-clause-stopped : goal.returns-in_err-finish_lane-clause-stopped
returns-in_err-finish_lane-clause-stopped g c = on-err c.from_residual.result _ c.in_err-finish_lane.ensures.stopped
