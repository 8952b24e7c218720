use Rattle.std.proofs.Common.{drop, replicate, None}
use Rattle.trace_text.specs.declared.limits.TheConstants.{REGISTERS}
use Rattle.lane_outcomes.specs.LaneCounts.{as_one, as_words, lane_given, lane_freed}
use Rattle.lane_outcomes.proofs.CountingLemmas.{IsCounting}
use Rattle.lane_outcomes.proofs.live.count_lane.Given as goal

abbrev pub invariant-loop-k : goal.invariant-loop-k
invariant-loop-k l = record {
  given : IsCounting l.fn.start.given l.given
      (lane_given as_one (drop l.k l.operations) (drop l.k l.outcomes)) (lane_given as_words (drop l.k l.operations) (drop l.k l.outcomes))
      (lane_given as_one l.operations l.outcomes) (lane_given as_words l.operations l.outcomes);
  freed : IsCounting l.fn.start.freed l.freed
      (lane_freed as_one l.registers (drop l.k l.operations) (drop l.k l.outcomes))
      (lane_freed as_words l.registers (drop l.k l.operations) (drop l.k l.outcomes))
      (lane_freed as_one (replicate REGISTERS None) l.operations l.outcomes)
      (lane_freed as_words (replicate REGISTERS None) l.operations l.outcomes);
}
