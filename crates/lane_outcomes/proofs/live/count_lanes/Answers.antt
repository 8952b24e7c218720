use Rattle.std.proofs.Common.{◌≤◌, ◌<◌, length, arith, sym}
use borrow.Author.Tests.{ltb-true}
use Rattle.lane_outcomes.specs.declared.live.TheConstants.{NOTHING}
use Rattle.lane_outcomes.specs.LaneCounts.{as_one, as_words}
use Rattle.lane_outcomes.proofs.CountingLemmas.{counting-more, counting-end, lanes_given-drop, lanes_freed-drop, lanes_given-past, lanes_freed-past}
use Rattle.lane_outcomes.proofs.live.count_lanes.Goals as goal

pub loop-lane-preserved : goal.loop-lane-preserved
loop-lane-preserved c =
    let within : c.loop-lane.lane < length c.as_slice-lanes.result.now = ltb-true _ _ (sym c.in-Some.ensures.lookup.0) in
    record {
      given =
          counting-more NOTHING c.loop-lane.tally.given c.count_lane-tally.result.given _ _ _ _ _ _ _ _ c.loop-lane.invariant.given
          c.count_lane-tally.ensures.given
          (lanes_given-drop as_one (λ lane. lane.items) (λ lane. lane.items) c.as_slice-lanes.result.now c.args.outcomes.now c.loop-lane.lane
          c.in-Some.operations.now c.index-outcomes-lane.result _ _ within c.loop-lane-test.true c.in-Some.ensures.lookup.1 c.index-outcomes-lane.is
          c.deref.ensures.value c.deref-in-loop-lane.ensures.value)
          (lanes_given-drop as_words (λ lane. lane.items) (λ lane. lane.items) c.as_slice-lanes.result.now c.args.outcomes.now c.loop-lane.lane
          c.in-Some.operations.now c.index-outcomes-lane.result _ _ within c.loop-lane-test.true c.in-Some.ensures.lookup.1 c.index-outcomes-lane.is
          c.deref.ensures.value c.deref-in-loop-lane.ensures.value);
      freed =
          counting-more NOTHING c.loop-lane.tally.freed c.count_lane-tally.result.freed _ _ _ _ _ _ _ _ c.loop-lane.invariant.freed
          c.count_lane-tally.ensures.freed
          (lanes_freed-drop as_one (λ lane. lane.items) (λ lane. lane.items) c.as_slice-lanes.result.now c.args.outcomes.now c.loop-lane.lane
          c.in-Some.operations.now c.index-outcomes-lane.result _ _ within c.loop-lane-test.true c.in-Some.ensures.lookup.1 c.index-outcomes-lane.is
          c.deref.ensures.value c.deref-in-loop-lane.ensures.value)
          (lanes_freed-drop as_words (λ lane. lane.items) (λ lane. lane.items) c.as_slice-lanes.result.now c.args.outcomes.now c.loop-lane.lane
          c.in-Some.operations.now c.index-outcomes-lane.result _ _ within c.loop-lane-test.true c.in-Some.ensures.lookup.1 c.index-outcomes-lane.is
          c.deref.ensures.value c.deref-in-loop-lane.ensures.value);
    }

pub returns-clause-given : goal.returns-clause-given
returns-clause-given c =
    let past : length c.args.outcomes.now ≤ c.loop-lane.lane = omega arith in
    counting-end NOTHING c.loop-lane.tally.given _ _ _ _ c.loop-lane.invariant.given
    (lanes_given-past as_one (λ lane. lane.items) _ c.args.outcomes.now c.loop-lane.lane past)
    (lanes_given-past as_words (λ lane. lane.items) _ c.args.outcomes.now c.loop-lane.lane past)

pub returns-clause-freed : goal.returns-clause-freed
returns-clause-freed c =
    let past : length c.args.outcomes.now ≤ c.loop-lane.lane = omega arith in
    counting-end NOTHING c.loop-lane.tally.freed _ _ _ _ c.loop-lane.invariant.freed
    (lanes_freed-past as_one (λ lane. lane.items) _ c.args.outcomes.now c.loop-lane.lane past)
    (lanes_freed-past as_words (λ lane. lane.items) _ c.args.outcomes.now c.loop-lane.lane past)
