use Rattle.std.proofs.lemmas.Result.{IfOk-weaker}
use Rattle.lane_outcomes.specs.Passed.{AllPassed}
use Rattle.lane_runner.proofs.DrivenLemmas.{all-passed, driven, driven-so-far, opened-run, so-none, told-driven}
use Rattle.lane_runner.proofs.OrderLemmas.{on-err}
use Rattle.lane_runner.proofs.run_core.run_core.Goals as goal

pub follow_runs-requires-clause-run : goal.follow_runs-requires-clause-run
follow_runs-requires-clause-run g c =
    opened-run (g.G.Gate.passed c.args.gate.now) c.args.trace.now c.args.core.now c.in_ok-lanes.lanes.items c.requires.trace c.requires.opened
    c.steps.ensures.rule c.in_ok-lanes.ensures

pub returns-clause-driven : goal.returns-clause-driven
returns-clause-driven g c =
    told-driven c.args.trace.now c.finish_lanes.new.core c.finish_lanes.new.lanes.items c.outcomes_of.result
    (driven c.requires.trace c.in_ok-finish_lanes.ensures.ran) c.outcomes_of.ensures

pub returns-clause-passed : goal.returns-clause-passed
returns-clause-passed g c =
    IfOk-weaker c.outcomes_of.result _ (λ outcomes. AllPassed (g.G.Gate.passed c.args.gate.now) c.args.trace.now.lanes)
    (λ outcomes are. all-passed c.requires.trace c.in_ok-finish_lanes.ensures.ran) c.outcomes_of.ensures

pub returns-in_err-lanes-clause-stopped : goal.returns-in_err-lanes-clause-stopped
returns-in_err-lanes-clause-stopped g c =
    on-err c.from_residual.result _ (so-none c.args.trace.now c.args.core.now c.requires.trace c.requires.opened c.steps.ensures.rule)

pub returns-in_err-follow_runs-clause-stopped : goal.returns-in_err-follow_runs-clause-stopped
returns-in_err-follow_runs-clause-stopped g c =
    on-err c.from_residual-in_err-follow_runs.result _ c.in_err-follow_runs.ensures.stopped

pub returns-in_err-finish_lanes-clause-stopped : goal.returns-in_err-finish_lanes-clause-stopped
returns-in_err-finish_lanes-clause-stopped g c =
    on-err c.from_residual-in_err-finish_lanes.result _ c.in_err-finish_lanes.ensures.stopped

pub returns-clause-stopped : goal.returns-clause-stopped
returns-clause-stopped g c =
    on-err c.outcomes_of.result _ (driven-so-far c.requires.trace c.in_ok-finish_lanes.ensures.ran)
