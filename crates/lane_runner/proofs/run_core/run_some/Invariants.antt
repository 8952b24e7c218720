use Rattle.lane_runner.specs.Running.{HasRun}
use Rattle.lane_runner.proofs.run_core.run_some.Given as goal

abbrev pub invariant-loop-step : goal.invariant-loop-step
invariant-loop-step g l = HasRun (g.G.Gate.passed l.gate) l.initial.core l.core l.operations l.initial.lane l.lane l._step
