use Rattle.step_machine.proofs.CoreLemmas.{run-longer}
use Rattle.step_machine.proofs.laws.runs_go_on.Goals as goal

pub returns : goal.returns
returns c = run-longer
