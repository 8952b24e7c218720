use Rattle.std.proofs.Common.{◌≡◌, ◌++◌, take}
use Rattle.lane_outcomes.specs.Report.{lane_report}
use Rattle.lane_outcomes.proofs.report.write_lane.Given as goal

abbrev pub invariant-loop-outcome : goal.invariant-loop-outcome
invariant-loop-outcome l = l.text ≡ l.fn.text ++ lane_report l.lane (take l.outcome-index l.outcomes)
