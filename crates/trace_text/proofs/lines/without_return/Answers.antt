use Rattle.std.proofs.Common.{rules}
use Rattle.trace_text.proofs.lines.without_return.Goals as goal

pub returns-in_default : goal.returns-in_default
returns-in_default c = search rules
