use Rattle.errand_steps.specs.Calls.{put}
use Rattle.benches.proofs.PassLemmas.{made-gone}
use Rattle.benches.proofs.heap.front.PassFront.shelve.Goals as goal

pub shelve-requires-clause-owned : goal.shelve-requires-clause-owned
shelve-requires-clause-owned g c = c.requires.held.1.0

pub returns-clause-holds : goal.returns-clause-holds
returns-clause-holds g c = λ held h.
    let block = c.args.block in
    made-gone c.args.heap.now c.args.self.now c.shelve.new.pass (put block.place block.need c.args.shelf) block held (λ other differs. differs)
    c.shelve.ensures h
