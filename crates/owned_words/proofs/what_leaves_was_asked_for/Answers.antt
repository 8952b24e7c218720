use Rattle.owned_words.proofs.AskedFor.{begins-leaving, begins-sparing, idle-leaving, settles-leaving, steps-leaving}
use Rattle.owned_words.proofs.what_leaves_was_asked_for.Goals as goal

pub returns-clause-settles : goal.returns-clause-settles
returns-clause-settles c = settles-leaving

pub returns-clause-steps : goal.returns-clause-steps
returns-clause-steps c = steps-leaving

pub returns-clause-idle : goal.returns-clause-idle
returns-clause-idle c = idle-leaving

pub returns-clause-begins : goal.returns-clause-begins
returns-clause-begins c = begins-leaving

pub returns-clause-spared : goal.returns-clause-spared
returns-clause-spared c = begins-sparing
