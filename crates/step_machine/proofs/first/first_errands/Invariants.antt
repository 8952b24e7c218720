use Rattle.step_machine.specs.Firsts.{AreErrands}
use Rattle.step_machine.proofs.first.first_errands.Given as goal

abbrev pub invariant-loop-caller : goal.invariant-loop-caller
invariant-loop-caller l = AreErrands l.geometry l.caller l.errands.items
