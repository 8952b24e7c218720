use Rattle.step_parts.proofs.hazard_lemmas.PickLemmas.{none-all, all-none, some-listed, some-free, some-picked, named-picked}
use Rattle.step_parts.proofs.hazard.laws.picked_is_not_held.Goals as goal

pub returns-clause-listed : goal.returns-clause-listed
returns-clause-listed c = some-listed

pub returns-clause-free : goal.returns-clause-free
returns-clause-free c = some-free

pub returns-clause-none : goal.returns-clause-none
returns-clause-none c = λ held ds. (none-all held ds, all-none held ds)

pub returns-clause-some : goal.returns-clause-some
returns-clause-some c = some-picked

pub returns-clause-named : goal.returns-clause-named
returns-clause-named c = named-picked
