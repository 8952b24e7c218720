use Rattle.std.proofs.Common.{◌∷◌}
use Rattle.benches.proofs.heap.stamps.fill.Goals as goal

pub write-requires-clause-held : goal.write-requires-clause-held
write-requires-clause-held g c =
    let held = c.requires.held in
    (held.0, c.loop-i.invariant.keeps (c.args.block.now ∷ held.0) held.1)

pub loop-i-preserved : goal.loop-i-preserved
loop-i-preserved g c =
    record {
      rests = c.write.ensures.rests;
      keeps = λ blocks held. c.write.ensures.holds blocks (c.loop-i.invariant.keeps blocks held);
    }
