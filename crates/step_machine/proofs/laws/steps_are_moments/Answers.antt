use Rattle.step_machine.proofs.MomentLemmas.{core-moment, core-beside, core-served}
use Rattle.step_machine.proofs.laws.steps_are_moments.Goals as goal

pub returns-clause-moment : goal.returns-clause-moment
returns-clause-moment c = core-moment

pub returns-clause-others : goal.returns-clause-others
returns-clause-others c = core-beside

pub returns-clause-served : goal.returns-clause-served
returns-clause-served c = core-served
