use Rattle.std.proofs.Common.{◌∷◌, sym, subst}
use Rattle.benches.specs.Hands.{blocks_of}
use Rattle.benches.proofs.heap.worker.Worker.take_up.Goals as goal

pub hold-requires-clause-holds : goal.hold-requires-clause-holds
hold-requires-clause-holds g c =
    let w = c.args.self.now in
    let block = c.in-Some.block in
    let blocks = blocks_of w.hand.items in
    let come = c.in-Some.ensures.holds blocks c.requires.holds_all in
    let q = c.check.new.self.front in
    subst (λ v. g.F.Front.holds q (block ∷ blocks_of v.items)) (sym c.check.ensures.hand)
    (c.check.ensures.keeps (block ∷ blocks) (c.first_word-stamp.ensures.keeps (block ∷ blocks) come))
