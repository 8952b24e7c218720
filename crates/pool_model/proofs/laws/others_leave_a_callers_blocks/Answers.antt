use Rattle.pool_model.proofs.OwnedLemmas.{others-all}
use Rattle.pool_model.proofs.OwnerLemmas.{others-keep_all}
use Rattle.pool_model.proofs.laws.others_leave_a_callers_blocks.Goals as goal

pub returns-clause-all : goal.returns-clause-all
returns-clause-all c = others-all

pub returns-clause-one : goal.returns-clause-one
returns-clause-one c = others-keep_all
