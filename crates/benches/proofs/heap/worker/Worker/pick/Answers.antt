use Rattle.std.proofs.Common.{◌<◌, length, rules}
use Rattle.benches.proofs.HandLemmas.{holds-picked}
use Rattle.benches.proofs.heap.worker.Worker.pick.Goals as goal

pub returns-then-place-len-clause-held : goal.returns-then-place-len-clause-held
returns-then-place-len-clause-held g c =
    let w = c.args.self.now in
    let r = c.remove.ensures in
    let within : c.below-place.result < length w.hand.items = search rules in
    holds-picked (g.F.Front.holds w.front) (c.blocks_have_no_order.ensures w.front) w.hand.items c.below-place.result c.remove.result c.remove.new.self.items within
    r.value r.items c.requires
