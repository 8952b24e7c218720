use Rattle.step_parts.proofs.large_lemmas.PointLemmas.{take-step}
use Rattle.step_parts.proofs.large_lemmas.UnitLemmas.{with_run-inside, with_run-outside, with_run-below}
use Rattle.step_parts.proofs.large.laws.run_is_taken.Goals as goal

pub returns-clause-inside : goal.returns-clause-inside
returns-clause-inside c = with_run-inside

pub returns-clause-outside : goal.returns-clause-outside
returns-clause-outside c = with_run-outside

pub returns-clause-within : goal.returns-clause-within
returns-clause-within c = with_run-below

pub returns-clause-step : goal.returns-clause-step
returns-clause-step c = take-step
