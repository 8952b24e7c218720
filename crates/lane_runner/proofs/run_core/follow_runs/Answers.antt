use Rattle.std.proofs.Common.{ℕ, ◌<◌, ◌+◌, List, ◌∷◌, drop, get_or, length, sym, subst}
use Rattle.std.proofs.lemmas.List.{drop_all, drop_more}
use Rattle.trace_text.specs.declared.trace.OrderRun.{OrderRun}
use Rattle.trace_text.specs.declared.trace.Trace.{Trace}
use Rattle.step_machine.specs.Cores.{CoreFields}
use Rattle.lane_engine.specs.declared.grip.Grip.{Grip}
use Rattle.trace_lane.specs.declared.lane.LaneState.{LaneState}
use Rattle.lane_runner.specs.Orders.{InOrder}
use Rattle.lane_runner.specs.Running.{HaveRunBefore}
use Rattle.lane_runner.proofs.OrderLemmas.{on-err}
use Rattle.lane_runner.proofs.run_core.follow_runs.Goals as goal

pub loop-run-init : goal.loop-run-init
loop-run-init g c =
    let trace = c.args.trace.now in
    subst
    (λ (runs : List OrderRun).
    HaveRunBefore (g.G.Gate.passed c.args.gate.now) trace (InOrder runs (length trace.lanes)) c.args.core.now c.args.lanes.now.items)
    (sym c.as_slice-run-items.ensures) c.requires.run

pub follow_run-requires-clause-stand : goal.follow_run-requires-clause-stand
follow_run-requires-clause-stand g c = (c.loop-run.invariant.moves, c.loop-run.invariant.ran)

-- the next order run is the first of those that are left
next-run :
    (passed : ℕ → ℕ → Type 0) (trace : Trace) (c : CoreFields) (lanes : List (LaneState Grip)) (runs : List OrderRun) (i : ℕ) → i < length runs
    → HaveRunBefore passed trace (InOrder (drop i runs) (length trace.lanes)) c lanes
    → HaveRunBefore passed trace (InOrder (get_or runs i (record { lane = 0; steps = 0 }) ∷ drop (i + 1) runs) (length trace.lanes)) c lanes
next-run passed trace c lanes runs i lt h =
    subst (λ (l : List OrderRun). HaveRunBefore passed trace (InOrder l (length trace.lanes)) c lanes)
    (drop_more runs i (record { lane = 0; steps = 0 }) lt) h

pub loop-run-preserved : goal.loop-run-preserved
loop-run-preserved g c =
    let runs = c.as_slice-run-items.result.now in
    let i = c.loop-run.run-index in
    c.in_ok-follow_run.ensures.ran (drop (i + 1) runs)
    (next-run (g.G.Gate.passed c.args.gate.now) c.args.trace.now c.loop-run.core c.loop-run.lanes.items runs i c.loop-run-test.true c.loop-run.invariant)

pub returns-clause-ran : goal.returns-clause-ran
returns-clause-ran g c =
    let trace = c.args.trace.now in
    subst
    (λ (l : List OrderRun).
    HaveRunBefore (g.G.Gate.passed c.args.gate.now) trace (InOrder l (length trace.lanes)) c.loop-run.core c.loop-run.lanes.items)
    (drop_all c.loop-run.run-index c.as_slice-run-items.result.now c.loop-run-test.false) c.loop-run.invariant

pub returns-in_err-follow_run-clause-stopped : goal.returns-in_err-follow_run-clause-stopped
returns-in_err-follow_run-clause-stopped g c =
    let runs = c.as_slice-run-items.result.now in
    let i = c.loop-run.run-index in
    on-err c.from_residual.result _
    (c.in_err-follow_run.ensures.stopped (drop (i + 1) runs)
    (next-run (g.G.Gate.passed c.args.gate.now) c.args.trace.now c.loop-run.core c.loop-run.lanes.items runs i c.loop-run-test.true c.loop-run.invariant))
