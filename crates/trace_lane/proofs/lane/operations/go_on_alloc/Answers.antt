use Rattle.trace_lane.proofs.OperationLemmas.{alloc-filled}
use Rattle.trace_lane.proofs.lane.operations.go_on_alloc.Goals as goal

pub returns-in-Filled-clause-gone : goal.returns-in-Filled-clause-gone
returns-in-Filled-clause-gone g c = λ need.
    rw c.in-Filled.is (rw c.end_with.ensures.told
    (alloc-filled g.B.Token.place_of g.B.Token.need_of c.args.registers.now.items c.end_with.new.registers.items c.args.r c.in-Filled.block c.end_with.ensures.held
    need c.args.v _ _ c.words-words.ensures c.place-place.ensures))
