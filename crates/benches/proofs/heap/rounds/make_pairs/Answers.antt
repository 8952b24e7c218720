use Rattle.std.proofs.Common.{[]}
use Rattle.benches.proofs.heap.rounds.make_pairs.Goals as goal

pub release-requires-clause-held : goal.release-requires-clause-held
release-requires-clause-held g c = ([], c.in-Some.ensures.holds [] c.loop.invariant.none)
