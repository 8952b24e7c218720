use Rattle.block_cache.proofs.TogetherLemmas.{among-held, opened, ordered, together}
use Rattle.block_cache.proofs.laws.caches_account_for_all_blocks.Goals as goal

pub returns-clause-opened : goal.returns-clause-opened
returns-clause-opened c = opened

pub returns-clause-together : goal.returns-clause-together
returns-clause-together c = together

pub returns-clause-held : goal.returns-clause-held
returns-clause-held c = among-held

pub returns-clause-order : goal.returns-clause-order
returns-clause-order c = ordered
