use Rattle.balloc_c.proofs.Numbers.{begins-at-zero}
use Rattle.balloc_c.proofs.laws.numbers_begin_at_zero.Goals as goal

pub returns : goal.returns
returns c = begins-at-zero
