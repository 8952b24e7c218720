use Rattle.std.proofs.Common.{rules}
use Rattle.trace_text.proofs.FieldLemmas.{three_fields}
use Rattle.trace_text.proofs.fields.any_three.Goals as goal

pub returns-in_err-numeral-3 : goal.returns-in_err-numeral-3
returns-in_err-numeral-3 c = rw (three_fields _ _ _ _ _ _ _ c.in_ok-a.ensures c.in_ok-b.ensures c.in_ok-c.ensures c.in_ok-none.ensures) (search rules)
