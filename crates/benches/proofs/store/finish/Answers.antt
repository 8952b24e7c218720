use Rattle.std.proofs.Common.{sym, ◌∙◌}
use Rattle.benches.proofs.store.finish.Goals as goal

pub loop-preserved : goal.loop-preserved
loop-preserved g c =
    let left = c.in-Busy.ensures.left in
    record { can_next = tt; is_finite = tt; under_way = left.0; no_record = λ many is. c.loop.invariant.no_record many (sym left.1 ∙ is) }

pub resume-requires-clause-words : goal.resume-requires-clause-words
resume-requires-clause-words g c = λ many is. absurd (c.loop.invariant.no_record many is)
