use Rattle.std.proofs.Common.{sym, ◌∙◌, arith}
use Rattle.std.proofs.lemmas.Grind.{common_steps}
use Rattle.trace_text.specs.Lines.{fields_of}
use Rattle.trace_text.specs.Said.{after_op}
use Rattle.trace_text.proofs.StageLemmas.{op_taken}
use Rattle.trace_text.proofs.stage.operation.Goals as goal

pub returns-in_err-op : goal.returns-in_err-op
unfolding after_op
returns-in_err-op c = grind (arith, common_steps)

pub returns : goal.returns
returns c =
    op_taken c.args.trace.now c.args.word.now (fields_of c.args.fields.now) c.in_ok-op.op c.push_op.new.self
    (sym c.is_in_lane.ensures ∙ c.if-not-is_in_lane.false) (sym c.in_ok-op.ensures) c.in_ok-push_op.ensures
