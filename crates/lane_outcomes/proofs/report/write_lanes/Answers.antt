use Rattle.lane_outcomes.proofs.ReportLemmas.{lane_written}
use Rattle.lane_outcomes.proofs.report.write_lanes.Goals as goal

pub loop-lane-preserved : goal.loop-lane-preserved
loop-lane-preserved c =
    lane_written (λ lane. lane.items) c.args.outcomes.now c.loop-lane.lane c.index-outcomes-lane.result _ _ _ _ c.loop-lane-test.true
    c.index-outcomes-lane.is c.deref.ensures.value c.loop-lane.invariant c.in_ok-write_lane.ensures
