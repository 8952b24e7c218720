use Rattle.live_heap.proofs.Holding.{holds-at, holds-removed}
use Rattle.live_heap.proofs.laws.hands.hands_give_out_blocks.Goals as goal

pub returns-clause-owned : goal.returns-clause-owned
returns-clause-owned c = holds-at

pub returns-clause-removed : goal.returns-clause-removed
returns-clause-removed c = holds-removed
