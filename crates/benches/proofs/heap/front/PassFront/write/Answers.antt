use Rattle.benches.proofs.PassLemmas.{holds-keeps}
use Rattle.benches.proofs.heap.front.PassFront.write.Goals as goal

pub write-requires-clause-owned : goal.write-requires-clause-owned
write-requires-clause-owned c = c.requires.held.1.0

pub returns-clause-holds : goal.returns-clause-holds
returns-clause-holds c = λ held h.
    holds-keeps c.args.self.now c.write.new.pass
    (λ block owned.
    c.passes_keep_their_blocks.ensures.called _ _ _ _ _ _ block c.requires.rests.0 c.write.ensures.of c.write.ensures.called tt owned)
    held h
