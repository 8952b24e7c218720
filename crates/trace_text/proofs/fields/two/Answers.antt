use Rattle.std.proofs.Common.{sym, ◌∙◌}
use Rattle.trace_text.proofs.FieldLemmas.{two_known}
use Rattle.trace_text.proofs.LineLemmas.{no_field}
use Rattle.trace_text.proofs.fields.two.Goals as goal

pub returns : goal.returns
returns c =
    let one = c.in-Some.ensures in
    let two = c.in-Some-plain_number.ensures in
    sym (two_known _ _ _ _ _ _ _ one.field two.field (no_field c.in-Some-plain_number.rest.now (sym c.is_empty.ensures ∙ c.if-is_empty.true)) one.number two.number)
