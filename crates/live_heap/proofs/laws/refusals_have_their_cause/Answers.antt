use Rattle.live_heap.proofs.RefusedSteps.{small-refused, large-refused}
use Rattle.live_heap.proofs.laws.refusals_have_their_cause.Goals as goal

pub returns-clause-small : goal.returns-clause-small
returns-clause-small c = small-refused

pub returns-clause-large : goal.returns-clause-large
returns-clause-large c = large-refused
