use Rattle.sound_laws.proofs.events_lemmas.AnswerLemmas.{step-goes_on, step-ends}
use Rattle.sound_laws.proofs.events.steps_add_the_events_of_a_call.Goals as goal

pub returns-clause-goes_on : goal.returns-clause-goes_on
returns-clause-goes_on c = step-goes_on

pub returns-clause-ends : goal.returns-clause-ends
returns-clause-ends c = step-ends
