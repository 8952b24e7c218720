use Rattle.std.proofs.Common.{◌≡◌, ◌++◌, take, map}
use Rattle.lane_outcomes.specs.Report.{lanes_report}
use Rattle.lane_outcomes.proofs.report.write_lanes.Given as goal

abbrev pub invariant-loop-lane : goal.invariant-loop-lane
invariant-loop-lane l = l.text ≡ l.fn.text ++ lanes_report 0 (map (λ lane. lane.items) (take l.lane l.fn.outcomes))
