use Rattle.step_parts.proofs.partial_lemmas.GrantLemmas.{granted-count, grant_more-within}
use Rattle.step_parts.proofs.partial.laws.grants_add_up.Goals as goal

pub returns-clause-count : goal.returns-clause-count
returns-clause-count c = granted-count

pub returns-clause-within : goal.returns-clause-within
returns-clause-within c = grant_more-within
