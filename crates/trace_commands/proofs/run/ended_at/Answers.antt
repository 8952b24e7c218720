use Rattle.std.proofs.Common.{rules}
use Rattle.trace_commands.proofs.run.ended_at.Goals as goal

pub returns-clause-code : goal.returns-clause-code
returns-clause-code c = search rules
