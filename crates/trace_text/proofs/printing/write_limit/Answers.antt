use Rattle.std.proofs.Common.{rules}
use Rattle.trace_text.proofs.printing.write_limit.Goals as goal

pub returns-else-trace : goal.returns-else-trace
returns-else-trace c = search rules
