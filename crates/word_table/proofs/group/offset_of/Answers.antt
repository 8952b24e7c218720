use Rattle.std.proofs.Common.{rules}
use Rattle.word_table.proofs.group.offset_of.Goals as goal

pub returns-in-Active : goal.returns-in-Active
returns-in-Active c = search rules
