use Rattle.shelf_laws.proofs.PipeLemmas.{shelf-empty, taken-all, taken-drained, taken-prefix}
use Rattle.shelf_laws.proofs.laws.quiet_pipes_keep_order.Goals as goal

pub returns-clause-prefix : goal.returns-clause-prefix
returns-clause-prefix c = taken-prefix

pub returns-clause-all : goal.returns-clause-all
returns-clause-all c = taken-all

pub returns-clause-empty : goal.returns-clause-empty
returns-clause-empty c = shelf-empty

pub returns-clause-drained : goal.returns-clause-drained
returns-clause-drained c = taken-drained
