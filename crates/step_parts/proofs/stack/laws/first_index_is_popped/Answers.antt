use Rattle.step_parts.proofs.stack_lemmas.StackLemmas.{stacked-first, stacked-popped}
use Rattle.step_parts.proofs.stack.laws.first_index_is_popped.Goals as goal

pub returns-clause-index : goal.returns-clause-index
returns-clause-index c = stacked-first

pub returns-clause-rest : goal.returns-clause-rest
returns-clause-rest c = stacked-popped
