use Rattle.std.proofs.Common.{sym, ◌∙◌}
use Rattle.trace_text.proofs.FieldLemmas.{one_known}
use Rattle.trace_text.proofs.LineLemmas.{no_field}
use Rattle.trace_text.proofs.fields.one.Goals as goal

pub returns : goal.returns
returns c = sym (one_known _ _ _ _ c.in-Some.ensures.field (no_field c.in-Some.rest.now (sym c.is_empty.ensures ∙ c.if-is_empty.true)) c.in-Some.ensures.number)
