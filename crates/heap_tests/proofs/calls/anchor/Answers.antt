use Rattle.std.proofs.Common.{rules}
use Rattle.word_table.specs.Counts.{descriptor_count}
use Rattle.heap_tests.proofs.calls.anchor.Goals as goal

pub word-requires : goal.word-requires
unfolding descriptor_count
word-requires c = search rules
