use Rattle.std.proofs.Common.{rules}
use Rattle.heap_census.proofs.tallies.add_superblock.Goals as goal

pub returns : goal.returns
returns c = search rules
