use Rattle.std.proofs.Common.{rules}
use Rattle.trace_commands.proofs.answer.reported.Goals as goal

pub returns : goal.returns
returns c = search rules
