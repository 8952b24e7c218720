use Rattle.errand_steps.proofs.SpentLemmas.{ends-spent, begins-at_limit}
use Rattle.errand_steps.proofs.laws.spent_is_at_the_limit.Goals as goal

pub returns-clause-ends : goal.returns-clause-ends
returns-clause-ends c = ends-spent

pub returns-clause-begins : goal.returns-clause-begins
returns-clause-begins c = begins-at_limit
