use Rattle.std.proofs.Common.{rules}
use Rattle.heap_geometry.proofs.place.place_of_unit.Goals as goal

pub returns : goal.returns
returns c = search rules
