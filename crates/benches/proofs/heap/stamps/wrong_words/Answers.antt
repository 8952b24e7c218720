use Rattle.std.proofs.Common.{◌∷◌}
use Rattle.benches.proofs.heap.stamps.wrong_words.Goals as goal

pub read-requires-clause-held : goal.read-requires-clause-held
read-requires-clause-held g c =
    let held = c.requires.held in
    (held.0, c.loop-i.invariant.keeps (c.args.block.now ∷ held.0) held.1)

pub loop-i-preserved : goal.loop-i-preserved
loop-i-preserved g c =
    record {
      rests = c.read.ensures.rests;
      keeps = λ blocks held. c.read.ensures.holds blocks (c.loop-i.invariant.keeps blocks held);
    }
