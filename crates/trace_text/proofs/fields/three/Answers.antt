use Rattle.std.proofs.Common.{sym, ◌∙◌}
use Rattle.trace_text.proofs.FieldLemmas.{three_known}
use Rattle.trace_text.proofs.LineLemmas.{no_field}
use Rattle.trace_text.proofs.fields.three.Goals as goal

pub returns : goal.returns
returns c =
    let one = c.in-Some.ensures in
    let two = c.in-Some-plain_number.ensures in
    let three = c.in-Some-plain_number-2.ensures in
    sym
    (three_known _ _ _ _ _ _ _ _ _ _ one.field two.field three.field
    (no_field c.in-Some-plain_number-2.rest.now (sym c.is_empty.ensures ∙ c.if-is_empty.true)) one.number two.number three.number)
