use Rattle.step_parts.proofs.superblock_lemmas.ChainLemmas.{chain_in-front}
use Rattle.step_parts.proofs.superblock.laws.index_is_put_in_front.Goals as goal

pub returns : goal.returns
returns c = chain_in-front
