use Rattle.std.proofs.Common.{◌∷◌}
use Rattle.benches.proofs.heap.rounds.turn_over.Goals as goal

pub fill-requires-clause-held : goal.fill-requires-clause-held
fill-requires-clause-held g c =
    let held = c.requires.held in
    (held.0, c.loop-round.invariant.keeps (c.args.block.now ∷ held.0) held.1)

pub sum-found-requires-clause-held : goal.sum-found-requires-clause-held
sum-found-requires-clause-held g c =
    let held = c.requires.held in
    let all = c.args.block.now ∷ held.0 in
    (held.0, c.fill.ensures.holds all (c.loop-round.invariant.keeps all held.1))

pub loop-round-preserved : goal.loop-round-preserved
loop-round-preserved g c =
    let i = c.loop-round.invariant in
    record {
      rests = c.sum-found.ensures.rests;
      keeps = λ blocks held. c.sum-found.ensures.holds blocks (c.fill.ensures.holds blocks (i.keeps blocks held));
    }
