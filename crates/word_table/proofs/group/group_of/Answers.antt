use Rattle.std.proofs.Common.{rules}
use Rattle.word_table.proofs.group.group_of.Goals as goal

pub returns-in-Next : goal.returns-in-Next
returns-in-Next c = search rules
