use Rattle.std.proofs.Common.{rules}
use Rattle.trace_commands.proofs.answer.told_of.Goals as goal

pub returns-in-Replay : goal.returns-in-Replay
returns-in-Replay g c = search rules
