use Rattle.std.proofs.Common.{◌≡◌, map}
use Rattle.workloads.specs.Made.{lanes_of}
use Rattle.workloads.proofs.making.all_lanes.Given as goal

abbrev pub invariant-loop-lane : goal.invariant-loop-lane
invariant-loop-lane l = (map (λ ops. ops.items) l.lanes.items, l.draws) ≡ lanes_of l.kind l.size l.lane l.fn.draws
