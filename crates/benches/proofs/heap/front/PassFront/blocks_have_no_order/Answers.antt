use Rattle.live_heap.proofs.laws_for_builders.Hands.{hand-joined, hand-left}
use Rattle.benches.proofs.heap.front.PassFront.blocks_have_no_order.Goals as goal

pub returns : goal.returns
returns c = λ front before after block. (hand-left front before after block, hand-joined front before after block)
