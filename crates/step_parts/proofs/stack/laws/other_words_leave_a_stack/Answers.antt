use Rattle.step_parts.proofs.stack_lemmas.StackLemmas.{stacked-off, stacked-elsewhere}
use Rattle.step_parts.proofs.stack.laws.other_words_leave_a_stack.Goals as goal

pub returns-clause-next : goal.returns-clause-next
returns-clause-next c = stacked-off

pub returns-clause-other : goal.returns-clause-other
returns-clause-other c = stacked-elsewhere
