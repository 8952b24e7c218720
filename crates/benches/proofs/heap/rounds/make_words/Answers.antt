use Rattle.std.proofs.Common.{◌∷◌, []}
use Rattle.benches.proofs.heap.rounds.make_words.Goals as goal

pub turn_over-requires-clause-held : goal.turn_over-requires-clause-held
turn_over-requires-clause-held g c = ([], c.in-Some.ensures.holds [] c.requires.none)

pub release-requires-clause-held : goal.release-requires-clause-held
release-requires-clause-held g c = ([], c.turn_over.ensures.keeps (c.in-Some.block ∷ []) (c.in-Some.ensures.holds [] c.requires.none))
