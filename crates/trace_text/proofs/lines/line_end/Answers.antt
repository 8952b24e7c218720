use Rattle.std.proofs.Common.{eqb}
use Rattle.trace_text.proofs.LineLemmas.{position_first}
use Rattle.trace_text.proofs.lines.line_end.Goals as goal

pub returns-clause-place : goal.returns-clause-place
returns-clause-place c = position_first (λ b. eqb b 10) c.args.text.now c.memchr.result c.memchr.ensures
