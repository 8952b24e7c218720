use Rattle.std.proofs.Common.{rules}
use Rattle.edge_io.proofs.memory.MemorySinkSink.write.Goals as goal

pub returns-clause-fails : goal.returns-clause-fails
returns-clause-fails c = search rules

pub returns-clause-progress : goal.returns-clause-progress
returns-clause-progress c = search rules

pub returns-clause-count : goal.returns-clause-count
returns-clause-count c = search rules

pub returns-clause-taken : goal.returns-clause-taken
returns-clause-taken c = search rules
