use Rattle.std.proofs.Common.{◌∙◌, ◌+◌, ◌<◌, length, refl, sym, arith, inl, inr}
use Rattle.std.proofs.lemmas.Bool.{cases_lt}
use Rattle.std.proofs.lemmas.List.{take_all}
use Rattle.trace_text.proofs.LineLemmas.{field_at, field_whole, fields_of-nil, rest_from}
use Rattle.trace_text.proofs.lines.field_to.Goals as goal

pub returns-then-end-bytes : goal.returns-then-end-bytes
returns-then-end-bytes c = (
  sym (take_all c.args.end c.args.bytes.now (omega (arith, c.if-end-bytes.true))),
  omega (arith, c.if-end-bytes.true, c.requires.begins.0),
  rw fields_of-nil (field_whole c.args.bytes.now c.args.end c.if-end-bytes.true c.requires.begins c.requires.filled),
)

pub returns-then-is_blank : goal.returns-then-is_blank
returns-then-is_blank c =
    let within : c.args.end < length c.args.bytes.now =
    elim (cases_lt c.args.end (length c.args.bytes.now)) [
      | inl below ↦ below
      | inr past ↦ absurd (c.if-end-bytes.false (omega (arith, past, c.requires.within)))
    ] in
    let field = field_at c.args.bytes.now c.args.end c.requires.begins c.requires.filled within (sym c.is_blank.ensures ∙ c.if-is_blank.true) in
    (refl, field.0, rw (rest_from (c.args.end + 1) c.args.bytes.now) field.1)
