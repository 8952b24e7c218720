use Rattle.errand_steps.proofs.BlindLemmas.{errand-blind, answer-blind}
use Rattle.errand_steps.proofs.laws.stores_are_blind.Goals as goal

pub returns-clause-errand : goal.returns-clause-errand
returns-clause-errand c = errand-blind

pub returns-clause-answer : goal.returns-clause-answer
returns-clause-answer c = answer-blind
