use Rattle.block_cache.proofs.WholeLemmas.{alloc-whole, asked-whole, free-whole}
use Rattle.block_cache.proofs.laws.ended_calls_are_whole.Goals as goal

pub returns-clause-alloc : goal.returns-clause-alloc
returns-clause-alloc c = alloc-whole

pub returns-clause-free : goal.returns-clause-free
returns-clause-free c = free-whole

pub returns-clause-asked : goal.returns-clause-asked
returns-clause-asked c = asked-whole
