use Rattle.std.proofs.Common.{rules}
use Rattle.heap_geometry.proofs.need.usable.Goals as goal

pub returns-in-Small : goal.returns-in-Small
returns-in-Small c = search rules
