use Rattle.std.proofs.Common.{rules}
use Rattle.block_pipe.proofs.receiver.Receiver.note.Goals as goal

pub returns-clause-of : goal.returns-clause-of
returns-clause-of g c = search rules
