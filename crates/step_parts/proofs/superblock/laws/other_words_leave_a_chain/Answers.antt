use Rattle.step_parts.proofs.superblock_lemmas.ChainLemmas.{chain_in-elsewhere}
use Rattle.step_parts.proofs.superblock.laws.other_words_leave_a_chain.Goals as goal

pub returns : goal.returns
returns c = chain_in-elsewhere
