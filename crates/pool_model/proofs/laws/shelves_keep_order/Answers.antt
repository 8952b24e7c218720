use Rattle.pool_model.proofs.ParcelLemmas.{at-most-one, in-order}
use Rattle.pool_model.proofs.laws.shelves_keep_order.Goals as goal

pub returns-clause-order : goal.returns-clause-order
returns-clause-order c = in-order

pub returns-clause-one : goal.returns-clause-one
returns-clause-one c = at-most-one
