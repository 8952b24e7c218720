use Rattle.std.proofs.Common.{rules}
use Rattle.plain_pool.proofs.places.lesser_open.Goals as goal

pub returns-else-contains_key-clause-from : goal.returns-else-contains_key-clause-from
returns-else-contains_key-clause-from c = search rules
