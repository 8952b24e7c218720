use Rattle.std.proofs.Common.{rules}
use Rattle.heap_geometry.proofs.place.place_of.Goals as goal

pub returns-clause-place : goal.returns-clause-place
returns-clause-place c = search rules

pub returns-clause-frame : goal.returns-clause-frame
returns-clause-frame c = search rules

pub returns-clause-index : goal.returns-clause-index
returns-clause-index c = search rules
