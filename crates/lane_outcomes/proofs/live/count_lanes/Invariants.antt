use Rattle.std.proofs.Common.{drop, map}
use Rattle.lane_outcomes.specs.declared.live.TheConstants.{NOTHING}
use Rattle.lane_outcomes.specs.LaneCounts.{as_one, as_words, lanes_given, lanes_freed}
use Rattle.lane_outcomes.proofs.CountingLemmas.{IsCounting}
use Rattle.lane_outcomes.proofs.live.count_lanes.Given as goal

abbrev pub invariant-loop-lane : goal.invariant-loop-lane
invariant-loop-lane l = record {
  given : IsCounting NOTHING l.tally.given
      (lanes_given as_one (map (λ lane. lane.items) (drop l.lane l.lanes)) (map (λ lane. lane.items) (drop l.lane l.outcomes)))
      (lanes_given as_words (map (λ lane. lane.items) (drop l.lane l.lanes)) (map (λ lane. lane.items) (drop l.lane l.outcomes)))
      (lanes_given as_one l.trace.lanes (map (λ lane. lane.items) l.outcomes))
      (lanes_given as_words l.trace.lanes (map (λ lane. lane.items) l.outcomes));
  freed : IsCounting NOTHING l.tally.freed
      (lanes_freed as_one (map (λ lane. lane.items) (drop l.lane l.lanes)) (map (λ lane. lane.items) (drop l.lane l.outcomes)))
      (lanes_freed as_words (map (λ lane. lane.items) (drop l.lane l.lanes)) (map (λ lane. lane.items) (drop l.lane l.outcomes)))
      (lanes_freed as_one l.trace.lanes (map (λ lane. lane.items) l.outcomes))
      (lanes_freed as_words l.trace.lanes (map (λ lane. lane.items) l.outcomes));
}
