use Rattle.std.proofs.Common.{None, refl}
use Rattle.trace_lane.proofs.Common.{held_by, slice_index_or}
use Rattle.trace_lane.proofs.MadeLemmas.{asked-full}
use Rattle.trace_lane.proofs.PartLemmas.{slot-full}
use Rattle.trace_lane.proofs.lane.operations.begin.Goals as goal

pub returns-in-None-unasked-clause-begun : goal.returns-in-None-unasked-clause-begun
returns-in-None-unasked-clause-begun g c =
    let place_of = g.B.Token.place_of in
    let need_of = g.B.Token.need_of in
    let blocks = c.args.registers.now.items in
    let r = c.in-Resize.r in
    let (block, full, differ) = asked-full place_of need_of (slice_index_or blocks r None) c.in-Resize.need c.unasked.result c.in-None-unasked.is c.unasked.ensures in
    rw c.in-Resize.is (refl, held_by place_of need_of block, (slot-full place_of need_of blocks r block full, refl), differ, refl, refl)
