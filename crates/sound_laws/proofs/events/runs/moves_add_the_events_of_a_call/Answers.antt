use Rattle.sound_laws.proofs.events_lemmas.CallSteps.{begins-in_call, moved-in_call, step-ends_call}
use Rattle.sound_laws.proofs.events.runs.moves_add_the_events_of_a_call.Goals as goal

pub returns-clause-begins : goal.returns-clause-begins
returns-clause-begins c = begins-in_call

pub returns-clause-goes_on : goal.returns-clause-goes_on
returns-clause-goes_on c = moved-in_call

pub returns-clause-ends : goal.returns-clause-ends
returns-clause-ends c = step-ends_call
