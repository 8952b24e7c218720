use Rattle.block_cache.proofs.HiddenWhole.{flush-shows, resumed-shows, whole-shows}
use Rattle.block_cache.proofs.laws.magazines_are_hidden.Goals as goal

pub returns-clause-whole : goal.returns-clause-whole
returns-clause-whole c = whole-shows

pub returns-clause-flushed : goal.returns-clause-flushed
returns-clause-flushed c = flush-shows

pub returns-clause-resumed : goal.returns-clause-resumed
returns-clause-resumed c = resumed-shows
