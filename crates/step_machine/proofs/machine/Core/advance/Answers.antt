use Rattle.std.proofs.Common.{rules}
use Rattle.step_machine.proofs.machine.Core.advance.Goals as goal

pub step-requires-clause-busy : goal.step-requires-clause-busy
step-requires-clause-busy c = search rules
