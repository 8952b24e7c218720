use Rattle.memory_cache.proofs.SettledLemmas.{fresh-settled, nothing-settled, settled-nothing}
use Rattle.memory_cache.proofs.laws.passes_with_nothing_are_settled.Goals as goal

pub returns-clause-settled : goal.returns-clause-settled
returns-clause-settled c = nothing-settled

pub returns-clause-nothing : goal.returns-clause-nothing
returns-clause-nothing c = settled-nothing

pub returns-clause-fresh : goal.returns-clause-fresh
returns-clause-fresh c = fresh-settled
