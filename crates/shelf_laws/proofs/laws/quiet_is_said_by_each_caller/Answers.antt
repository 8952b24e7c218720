use Rattle.shelf_laws.proofs.OwnLemmas.{puts-own, quiet-each, quiet-own, takes-own}
use Rattle.shelf_laws.proofs.laws.quiet_is_said_by_each_caller.Goals as goal

pub returns-clause-quiet : goal.returns-clause-quiet
returns-clause-quiet c = λ senders shelves history. (quiet-own senders shelves history, quiet-each senders shelves history)

pub returns-clause-puts : goal.returns-clause-puts
returns-clause-puts c = puts-own

pub returns-clause-takes : goal.returns-clause-takes
returns-clause-takes c = takes-own
