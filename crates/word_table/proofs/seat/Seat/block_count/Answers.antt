use Rattle.std.proofs.Common.{arith}
use Rattle.word_table.proofs.SeatLemmas.{block_count_of-least, block_count_of-most}
use Rattle.word_table.proofs.seat.Seat.block_count.Goals as goal

pub returns-clause-least : goal.returns-clause-least
returns-clause-least c = omega (arith, block_count_of-least c.self.inside.class c.self.invariant.0.class)

pub returns-clause-most : goal.returns-clause-most
returns-clause-most c = omega (arith, block_count_of-most c.self.inside.class)
