use Rattle.std.proofs.Common.{refl}
use Rattle.step_parts.proofs.large_lemmas.UnitLemmas.{without_run-inside, without_run-outside, without_run-below}
use Rattle.step_parts.proofs.large.laws.run_is_given_back.Goals as goal

pub returns-clause-inside : goal.returns-clause-inside
returns-clause-inside c = without_run-inside

pub returns-clause-outside : goal.returns-clause-outside
returns-clause-outside c = without_run-outside

pub returns-clause-within : goal.returns-clause-within
returns-clause-within c = without_run-below

pub returns-clause-step : goal.returns-clause-step
returns-clause-step c place r bits = refl
