use Rattle.errand_steps.proofs.AnswerLemmas.{done-told, lost-told, cleared-told}
use Rattle.errand_steps.proofs.laws.answers_tell_what_came_to_pass.Goals as goal

pub returns-clause-done : goal.returns-clause-done
returns-clause-done c e x busy = done-told e x busy

pub returns-clause-lost : goal.returns-clause-lost
returns-clause-lost c e x busy = lost-told e x busy

pub returns-clause-cleared : goal.returns-clause-cleared
returns-clause-cleared c e x busy = cleared-told e x busy
