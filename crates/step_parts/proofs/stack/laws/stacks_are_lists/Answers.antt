use Rattle.step_parts.proofs.stack_lemmas.StackLemmas.{stacked-one, stacked-empty, stacked-once}
use Rattle.step_parts.proofs.stack.laws.stacks_are_lists.Goals as goal

pub returns-clause-one : goal.returns-clause-one
returns-clause-one c = stacked-one

pub returns-clause-empty : goal.returns-clause-empty
returns-clause-empty c = stacked-empty

pub returns-clause-once : goal.returns-clause-once
returns-clause-once c = stacked-once
