use Rattle.std.proofs.Common.{arith}
use Rattle.std.proofs.lemmas.Grind.{common_steps}
use Rattle.workloads.specs.Lanes.{scalability_round}
use Rattle.workloads.proofs.scalability.write_round.Goals as goal

pub returns : goal.returns
unfolding scalability_round
returns c = grind (arith, common_steps)
