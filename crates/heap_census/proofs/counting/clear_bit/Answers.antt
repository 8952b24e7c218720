use Rattle.std.proofs.Common.{arith}
use Rattle.std.proofs.lemmas.Grind.{common_steps}
use Rattle.heap_census.proofs.counting.clear_bit.Goals as goal

pub returns-then-word-bit-eq0 : goal.returns-then-word-bit-eq0
returns-then-word-bit-eq0 c = grind (arith, common_steps)

pub returns-else-word-bit-eq0 : goal.returns-else-word-bit-eq0
returns-else-word-bit-eq0 c = grind (arith, common_steps)
