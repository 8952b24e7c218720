use Rattle.std.proofs.Common.{◌-◌, vec_len, refl, arith}
use Rattle.trace_text.proofs.StageLemmas.{last_given}
use Rattle.trace_text.proofs.trace.push_onto_last.Goals as goal

pub returns-in_ok-push : goal.returns-in_ok-push
returns-in_ok-push c =
    let lanes = c.args.lanes.now in
    last_given (λ ops. ops.items) c.args.op lanes.items (vec_len lanes - 1) c.in-Some.last.now c.push.new.self
    (omega (arith, lanes.ok.0, c.in-Some.ensures.variant.0 refl)) c.in-Some.ensures.value c.in_ok-push.ensures.items
