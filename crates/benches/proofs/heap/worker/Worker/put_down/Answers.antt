use Rattle.std.proofs.Common.{◌∷◌, sym, subst}
use Rattle.benches.specs.Hands.{blocks_of}
use Rattle.benches.proofs.heap.worker.Worker.put_down.Goals as goal

pub shelve-requires-clause-held : goal.shelve-requires-clause-held
shelve-requires-clause-held g c =
    let blocks = blocks_of c.args.self.now.hand.items in
    (blocks, c.check.ensures.keeps (c.args.held.block ∷ blocks) c.requires.holds)

pub returns : goal.returns
returns g c =
    let blocks = blocks_of c.args.self.now.hand.items in
    let q = c.shelve.new.self in
    record {
      rests_at = c.shelve.ensures.rests;
      holds_all =
          subst (λ v. g.F.Front.holds q (blocks_of v.items)) (sym c.check.ensures.hand)
          (c.shelve.ensures.holds blocks (c.check.ensures.keeps (c.args.held.block ∷ blocks) c.requires.holds));
    }
