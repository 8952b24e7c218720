use Rattle.block_cache.proofs.WholeLemmas.{whole-apart, whole-hands, whole-keeps}
use Rattle.block_cache.proofs.laws.whole_calls_keep_blocks.Goals as goal

pub returns-clause-keeps : goal.returns-clause-keeps
returns-clause-keeps c = whole-keeps

pub returns-clause-hands : goal.returns-clause-hands
returns-clause-hands c = whole-hands

pub returns-clause-apart : goal.returns-clause-apart
returns-clause-apart c = whole-apart
