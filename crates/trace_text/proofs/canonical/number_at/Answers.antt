use Rattle.std.proofs.Common.{◌<◌, arith, inl, inr}
use Rattle.std.proofs.lemmas.Bool.{cases_lt}
use Rattle.trace_text.proofs.CanonicalLemmas.{number_stands}
use Rattle.trace_text.proofs.canonical.number_at.Goals as goal

pub returns-clause-number : goal.returns-clause-number
returns-clause-number c =
    let start = c.args.start in
    let at = c.digits_at-n.result.1 in
    let read = c.digits_at-n.ensures in
    let later : start < at =
    elim (cases_lt start at) [
      | inl below ↦ below
      | inr past ↦ absurd (c.if-at-start.false (omega (arith, past, read.place.0)))
    ] in
    number_stands c.args.text.now start at c.args.end c.digits_at-n.result.0 later read.place.1 (omega (arith, c.if-at-start-gt-SHORT.false)) read.digits read.zero
    (read.value (omega (arith, c.if-at-start-gt-SHORT.false))) c.if-text-at.false
