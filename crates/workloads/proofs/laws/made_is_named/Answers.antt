use Rattle.workloads.proofs.TraceLemmas.{made-is_trace}
use Rattle.workloads.proofs.laws.made_is_named.Goals as goal

pub returns : goal.returns
returns c = made-is_trace
