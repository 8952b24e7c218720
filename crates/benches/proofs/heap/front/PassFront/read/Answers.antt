use Rattle.benches.proofs.PassLemmas.{holds-keeps}
use Rattle.benches.proofs.heap.front.PassFront.read.Goals as goal

pub read-requires-clause-owned : goal.read-requires-clause-owned
read-requires-clause-owned c = c.requires.held.1.0

pub returns-clause-holds : goal.returns-clause-holds
returns-clause-holds c = λ held h.
    holds-keeps c.args.self.now c.read.new.pass
    (λ block owned.
    c.passes_keep_their_blocks.ensures.called _ _ _ _ _ _ block c.requires.rests.0 c.read.ensures.of c.read.ensures.called tt owned)
    held h
