use Rattle.std.proofs.Common.{arith, rules}
use Rattle.word_table.proofs.SeatLemmas.{block_count_of-least}
use Rattle.step_machine.proofs.first.full_anchor.Goals as goal

pub overflow_sub-count : goal.overflow_sub-count
overflow_sub-count c = grind (arith, block_count_of-least c.args.class c.requires)

pub returns : goal.returns
returns c = search rules
