use Rattle.std.proofs.Common.{rules}
use Rattle.heap_geometry.proofs.need.block_count.Goals as goal

pub returns : goal.returns
returns c = search rules
