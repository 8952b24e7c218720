use Rattle.errand_steps.specs.Calls.{alloc}
use Rattle.benches.proofs.PassLemmas.{made-holds}
use Rattle.benches.proofs.heap.front.PassFront.allocate.Goals as goal

pub returns-clause-holds : goal.returns-clause-holds
returns-clause-holds g c = λ held h.
    made-holds c.args.heap.now c.args.self.now c.allocate.new.pass (alloc c.args.need) c.allocate.result held (λ other. tt) c.allocate.ensures h
