use Rattle.std.proofs.Common.{rules}
use Rattle.edge_io.proofs.memory.MemorySink.bytes.Goals as goal

pub returns-clause-value : goal.returns-clause-value
returns-clause-value c = search rules
