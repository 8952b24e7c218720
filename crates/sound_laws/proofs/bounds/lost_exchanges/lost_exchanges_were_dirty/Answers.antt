use Rattle.sound_laws.proofs.bounds_lemmas.WonSteps.{lost-dirty, step-pairs}
use Rattle.sound_laws.proofs.bounds.lost_exchanges.lost_exchanges_were_dirty.Goals as goal

pub returns-clause-dirty : goal.returns-clause-dirty
returns-clause-dirty c = lost-dirty

pub returns-clause-used : goal.returns-clause-used
returns-clause-used c = step-pairs
