use Rattle.std.proofs.Common.{arith}
use Rattle.sound_laws.proofs.bounds_lemmas.LossLemmas.{losses-bounded}
use Rattle.sound_laws.proofs.bounds.lost_exchanges.losses_are_bounded.Goals as goal

pub returns-clause-list : goal.returns-clause-list
returns-clause-list c = λ g s w won. omega (arith, won.contended.most)

pub returns-clause-won : goal.returns-clause-won
returns-clause-won c = losses-bounded
