use Rattle.step_parts.proofs.stack_lemmas.StackLemmas.{stacked-pushed}
use Rattle.step_parts.proofs.stack.laws.index_is_put_in_front.Goals as goal

pub returns : goal.returns
returns c = stacked-pushed
