use Rattle.std.proofs.Common.{arith}
use Rattle.word_table.proofs.SeatLemmas.{block_count_of-least}
use Rattle.step_machine.proofs.first.full_credits.Goals as goal

pub overflow_sub-result : goal.overflow_sub-result
overflow_sub-result c = grind (arith, block_count_of-least c.args.class c.requires)
