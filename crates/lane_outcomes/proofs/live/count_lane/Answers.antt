use Rattle.std.proofs.Common.{◌≤◌, length, arith}
use Rattle.lane_outcomes.specs.LaneCounts.{as_one, as_words}
use Rattle.lane_outcomes.proofs.CountingLemmas.{counting-start, counting-end, lane_given-past, lane_freed-past}
use Rattle.lane_outcomes.proofs.live.count_lane.Goals as goal

pub loop-k-init : goal.loop-k-init
loop-k-init c =
    rw c.new-registers.ensures
    (record { given = counting-start c.args.start.given _ _; freed = counting-start c.args.start.freed _ _ })

pub returns-clause-given : goal.returns-clause-given
returns-clause-given c =
    let past : length c.args.outcomes.now ≤ c.loop-k.k = omega arith in
    counting-end c.args.start.given c.loop-k.given _ _ _ _ c.loop-k.invariant.given
    (lane_given-past as_one c.args.operations.now c.args.outcomes.now c.loop-k.k past)
    (lane_given-past as_words c.args.operations.now c.args.outcomes.now c.loop-k.k past)

pub returns-clause-freed : goal.returns-clause-freed
returns-clause-freed c =
    let past : length c.args.outcomes.now ≤ c.loop-k.k = omega arith in
    counting-end c.args.start.freed c.loop-k.freed _ _ _ _ c.loop-k.invariant.freed
    (lane_freed-past as_one c.loop-k.registers c.args.operations.now c.args.outcomes.now c.loop-k.k past)
    (lane_freed-past as_words c.loop-k.registers c.args.operations.now c.args.outcomes.now c.loop-k.k past)
