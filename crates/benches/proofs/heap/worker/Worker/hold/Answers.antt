use Rattle.std.proofs.Common.{List, sym, subst}
use Rattle.benches.specs.declared.heap.worker.Stamped.{Stamped}
use Rattle.benches.specs.Hands.{blocks_of}
use Rattle.benches.proofs.HandLemmas.{holds-push}
use Rattle.benches.proofs.heap.worker.Worker.hold.Goals as goal

pub returns-clause-holds : goal.returns-clause-holds
returns-clause-holds g c =
    let w = c.args.self.now in
    let held : Stamped = record { block = c.args.block; stamp = c.args.stamp } in
    let H = g.F.Front.holds w.front in
    subst (λ (l : List Stamped). H (blocks_of l)) (sym c.push_reserved.ensures.items)
    (holds-push H (c.blocks_have_no_order.ensures w.front) held w.hand.items c.requires.holds)
