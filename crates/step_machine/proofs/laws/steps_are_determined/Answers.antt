use Rattle.step_machine.proofs.StepLemmas.{step-determined}
use Rattle.step_machine.proofs.laws.steps_are_determined.Goals as goal

pub returns : goal.returns
returns c = step-determined
