use Rattle.std.proofs.Common.{refl}
use Rattle.std.proofs.lemmas.List.{map-append}
use Rattle.workloads.specs.Made.{lanes_of}
use Rattle.workloads.proofs.MadeLemmas.{lanes-more}
use Rattle.workloads.proofs.making.all_lanes.Goals as goal

pub loop-lane-init : goal.loop-lane-init
unfolding lanes_of
loop-lane-init c = rw c.new-lanes.ensures.items refl

pub loop-lane-preserved : goal.loop-lane-preserved
loop-lane-preserved c =
    rw (c.in_ok-push.ensures.items, map-append)
    (lanes-more c.args.kind c.args.size c.loop-lane.lane c.rounds.result _ _ c.args.draws.now c.loop-lane.draws c.lane_ops.new.draws c.loop-lane.invariant c.rounds.ensures c.in_ok-lane_ops.ensures)
