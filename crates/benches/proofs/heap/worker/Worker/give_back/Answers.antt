use Rattle.std.proofs.Common.{◌∷◌, sym, subst}
use Rattle.benches.specs.Hands.{blocks_of}
use Rattle.benches.proofs.heap.worker.Worker.give_back.Goals as goal

pub release-requires-clause-held : goal.release-requires-clause-held
release-requires-clause-held g c =
    let blocks = blocks_of c.args.self.now.hand.items in
    (blocks, c.check.ensures.keeps (c.args.held.block ∷ blocks) c.requires.holds)

pub returns-clause-working : goal.returns-clause-working
returns-clause-working g c =
    let blocks = blocks_of c.args.self.now.hand.items in
    let q = c.release.new.self in
    record {
      rests_at = c.release.ensures.rests;
      holds_all =
          subst (λ v. g.F.Front.holds q (blocks_of v.items)) (sym c.check.ensures.hand)
          (c.release.ensures.holds blocks (c.check.ensures.keeps (c.args.held.block ∷ blocks) c.requires.holds));
    }
