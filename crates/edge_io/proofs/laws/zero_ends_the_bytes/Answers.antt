use Rattle.edge_io.proofs.ReadLemmas.{IfSome-from_zero}
use Rattle.edge_io.proofs.laws.zero_ends_the_bytes.Goals as goal

pub returns : goal.returns
returns c = IfSome-from_zero
