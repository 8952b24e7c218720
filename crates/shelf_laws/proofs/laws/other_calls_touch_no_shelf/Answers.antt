use Rattle.shelf_laws.proofs.CallLemmas.{ended-outside, so_far-outside}
use Rattle.shelf_laws.proofs.laws.other_calls_touch_no_shelf.Goals as goal

pub returns-clause-ended : goal.returns-clause-ended
returns-clause-ended c = ended-outside

pub returns-clause-so_far : goal.returns-clause-so_far
returns-clause-so_far c = so_far-outside
