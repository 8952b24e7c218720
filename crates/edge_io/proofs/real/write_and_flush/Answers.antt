use Rattle.std.proofs.Common.{rules}
use Rattle.edge_io.proofs.real.write_and_flush.Goals as goal

pub returns-clause-progress : goal.returns-clause-progress
returns-clause-progress g c = search rules
