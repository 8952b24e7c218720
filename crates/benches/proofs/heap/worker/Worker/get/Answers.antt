use Rattle.std.proofs.Common.{◌∷◌, sym, subst}
use Rattle.benches.specs.Hands.{blocks_of}
use Rattle.benches.proofs.heap.worker.Worker.get.Goals as goal

pub hold-requires-clause-holds : goal.hold-requires-clause-holds
hold-requires-clause-holds g c =
    let w = c.args.self.now in
    let block = c.in-Some.block in
    let blocks = blocks_of w.hand.items in
    let come = c.in-Some.ensures.holds blocks c.requires.holds_all in
    let n = c.next_stamp-stamp in
    let numbered = subst (λ f. g.F.Front.holds f (block ∷ blocks)) (sym n.ensures.front) come in
    let q = c.fill.new.front in
    subst (λ v. g.F.Front.holds q (block ∷ blocks_of v.items)) (sym n.ensures.hand) (c.fill.ensures.keeps (block ∷ blocks) numbered)
