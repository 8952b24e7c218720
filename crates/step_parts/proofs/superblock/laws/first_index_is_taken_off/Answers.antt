use Rattle.step_parts.proofs.superblock_lemmas.ChainLemmas.{chain_of-length, chain_of-first}
use Rattle.step_parts.proofs.superblock.laws.first_index_is_taken_off.Goals as goal

pub returns-clause-length : goal.returns-clause-length
returns-clause-length c = chain_of-length

pub returns-clause-rest : goal.returns-clause-rest
returns-clause-rest c = chain_of-first
