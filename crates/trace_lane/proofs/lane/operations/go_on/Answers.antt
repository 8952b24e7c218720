use Rattle.trace_lane.proofs.OperationLemmas.{check-summed, fill-filled, put-full}
use Rattle.trace_lane.proofs.lane.operations.go_on.Goals as goal

pub returns-in-Alloc-clause-gone : goal.returns-in-Alloc-clause-gone
returns-in-Alloc-clause-gone g c = rw c.in-Alloc.is (c.go_on_alloc.ensures.gone c.in-Alloc.need)

pub returns-in-Resize-clause-gone : goal.returns-in-Resize-clause-gone
returns-in-Resize-clause-gone g c = rw c.in-Resize.is (c.go_on_resize.ensures.gone c.in-Resize.need)

pub returns-in-Filled-clause-gone : goal.returns-in-Filled-clause-gone
returns-in-Filled-clause-gone g c =
    rw c.in-Fill.is (rw c.in-Filled.is (rw c.end_with.ensures.told
    (fill-filled g.B.Token.place_of g.B.Token.need_of c.args.registers.now.items c.end_with.new.registers.items c.in-Fill.r c.in-Filled.block c.end_with.ensures.held
    c.in-Fill.v)))

pub returns-in-Summed-clause-gone : goal.returns-in-Summed-clause-gone
returns-in-Summed-clause-gone g c =
    rw c.in-Check.is (rw c.in-Summed.is (rw c.end_with-in-Summed.ensures.told
    (check-summed g.B.Token.place_of g.B.Token.need_of c.args.registers.now.items c.end_with-in-Summed.new.registers.items c.in-Check.r c.in-Summed.block c.end_with-in-Summed.ensures.held
    c.in-Summed.total)))

pub returns-in-Full-clause-gone : goal.returns-in-Full-clause-gone
returns-in-Full-clause-gone g c =
    rw c.in-Put.is (rw c.in-Full.is (rw c.end_with-in-Full.ensures.told
    (put-full g.B.Token.place_of g.B.Token.need_of c.args.registers.now.items c.end_with-in-Full.new.registers.items c.in-Put.r c.in-Full.block c.end_with-in-Full.ensures.held
    c.in-Put.shelf)))
