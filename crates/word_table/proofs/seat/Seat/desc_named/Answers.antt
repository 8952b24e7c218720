use Rattle.std.proofs.Common.{rules}
use Rattle.word_table.proofs.seat.Seat.desc_named.Goals as goal

pub returns-then-number-from : goal.returns-then-number-from
returns-then-number-from c = search rules
