use Rattle.step_machine.proofs.StepLemmas.{run-split, run-join}
use Rattle.step_machine.proofs.laws.runs_follow_one_another.Goals as goal

pub returns : goal.returns
returns c = λ s t first rest n. (run-split s t first rest n, run-join s t first rest n)
