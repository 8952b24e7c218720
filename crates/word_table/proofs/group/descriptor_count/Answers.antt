use Rattle.std.proofs.Common.{rules}
use Rattle.word_table.specs.Counts.{descriptor_count}
use Rattle.word_table.proofs.group.descriptor_count.Goals as goal

pub returns-clause-value : goal.returns-clause-value
unfolding descriptor_count
returns-clause-value c = search rules
