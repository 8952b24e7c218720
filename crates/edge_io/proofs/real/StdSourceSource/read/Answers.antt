use Rattle.std.proofs.Common.{rules}
use Rattle.edge_io.proofs.real.StdSourceSource.read.Goals as goal

pub returns-clause-bytes : goal.returns-clause-bytes
returns-clause-bytes g c = search rules
