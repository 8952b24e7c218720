use Rattle.step_parts.proofs.large_lemmas.LowestLemmas.{first_run-exact, first_run-alone}
use Rattle.step_parts.proofs.large.laws.first_run_is_the_lowest.Goals as goal

pub returns-clause-exact : goal.returns-clause-exact
returns-clause-exact c = first_run-exact

pub returns-clause-alone : goal.returns-clause-alone
returns-clause-alone c = first_run-alone
