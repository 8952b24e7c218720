use Rattle.step_machine.proofs.StepLemmas.{step-stepped}
use Rattle.step_machine.proofs.laws.lists_make_steps.Goals as goal

pub returns : goal.returns
returns c = step-stepped
