use Rattle.std.proofs.Common.{take}
use Rattle.trace_text.proofs.LineLemmas.{digits_fill}
use Rattle.trace_text.proofs.fields.plain_number.Goals as goal

pub field_to-requires-clause-filled : goal.field_to-requires-clause-filled
field_to-requires-clause-filled c = digits_fill (take c.first_digits-len.result.0 c.args.bytes.now) c.first_digits-len.ensures.digits
