use Rattle.workloads.proofs.FreedLemmas.{made-freed}
use Rattle.workloads.proofs.laws.lanes_free_what_they_hold.Goals as goal

pub returns : goal.returns
returns c = made-freed
