use Rattle.std.proofs.Common.{◌∙◌, ◌+◌}
use Rattle.trace_text.proofs.LineLemmas.{field_before, field_alone, fields_of-nil, rest_from}
use Rattle.trace_text.proofs.lines.first_field.Goals as goal

pub returns-in-Some-field_end : goal.returns-in-Some-field_end
returns-in-Some-field_end c =
    let bytes = c.in-Some.bytes.now in
    rw (rest_from (c.in-Some-field_end.end + 1) bytes)
    (c.in-Some.ensures.0 ∙ field_before bytes c.in-Some-field_end.end c.in-Some.ensures.1 c.in-Some-field_end.ensures.place)

pub returns-in-None : goal.returns-in-None
returns-in-None c = rw fields_of-nil (c.in-Some.ensures.0 ∙ field_alone c.in-Some.bytes.now c.in-Some.ensures.1 c.in-None.ensures.place)
