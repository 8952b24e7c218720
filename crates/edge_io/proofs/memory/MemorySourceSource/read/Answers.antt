use Rattle.std.proofs.Common.{rules}
use Rattle.edge_io.proofs.memory.MemorySourceSource.read.Goals as goal

pub returns-clause-count : goal.returns-clause-count
returns-clause-count c = search rules
