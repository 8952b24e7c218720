use Rattle.std.proofs.Common.{rules}
use Rattle.command_line.proofs.command.short_command.Goals as goal

pub returns-in-schedule-clause-some : goal.returns-in-schedule-clause-some
returns-in-schedule-clause-some c = search rules
