use Rattle.std.proofs.Common.{rules}
use Rattle.step_machine.proofs.seen.owner_or.Goals as goal

pub returns-in-Some : goal.returns-in-Some
returns-in-Some c = search rules
