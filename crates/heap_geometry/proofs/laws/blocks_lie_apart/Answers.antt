use Rattle.heap_geometry.proofs.PlaceLemmas.{frame-apart}
use Rattle.heap_geometry.proofs.laws.blocks_lie_apart.Goals as goal

pub returns-clause-same_frame : goal.returns-clause-same_frame
returns-clause-same_frame c = λ frame class i j _ differ. frame-apart frame class i j differ
