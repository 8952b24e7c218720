use Rattle.errand_steps.specs.Calls.{free}
use Rattle.benches.proofs.PassLemmas.{made-gone}
use Rattle.benches.proofs.heap.front.PassFront.release.Goals as goal

pub release-requires-clause-owned : goal.release-requires-clause-owned
release-requires-clause-owned g c = c.requires.held.1.0

pub returns-clause-holds : goal.returns-clause-holds
returns-clause-holds g c = λ held h.
    let block = c.args.block in
    made-gone c.args.heap.now c.args.self.now c.release.new.pass (free block.place block.need) block held (λ other differs. differs) c.release.ensures h
