use Rattle.std.proofs.Common.{◌+◌, sym, ◌∙◌, length, arith}
use Rattle.std.proofs.lemmas.Bool.{eqb-true, eqb-false}
use Rattle.trace_text.proofs.LineLemmas.{line_before, line_alone, no_byte, no_lines, rest_from}
use Rattle.trace_text.proofs.lines.first_line.Goals as goal

pub returns-in-Some-clause-lines : goal.returns-in-Some-clause-lines
returns-in-Some-clause-lines c =
    rw (rest_from (c.in-Some.end + 1) c.args.text.now, c.without_return.ensures)
    (line_before c.args.text.now c.in-Some.end c.in-Some.ensures.place)

pub returns-in-None-clause-lines : goal.returns-in-None-clause-lines
returns-in-None-clause-lines c =
    no_byte c.args.text.now (eqb-true (length c.args.text.now) 0 (sym c.is_empty.ensures ∙ c.if-is_empty.true))

pub returns-in-None-2-clause-lines : goal.returns-in-None-2-clause-lines
returns-in-None-2-clause-lines c =
    let some = eqb-false (length c.args.text.now) 0 (sym c.is_empty.ensures ∙ c.if-is_empty.false) in
    rw (no_lines, c.without_return-in-None-2.ensures) (line_alone c.args.text.now c.in-None-2.ensures.place (omega (arith, some)))
