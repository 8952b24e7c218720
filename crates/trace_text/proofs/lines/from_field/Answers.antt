use Rattle.trace_text.proofs.LineLemmas.{only_blanks, field_begins, rest_from}
use Rattle.trace_text.proofs.lines.from_field.Goals as goal

pub returns-in-Some : goal.returns-in-Some
returns-in-Some c =
    rw (rest_from c.in-Some.start c.args.line.now) (field_begins c.args.line.now c.in-Some.start c.in-Some.ensures.place)

pub returns-in-None : goal.returns-in-None
returns-in-None c = only_blanks c.args.line.now c.in-None.ensures.place
