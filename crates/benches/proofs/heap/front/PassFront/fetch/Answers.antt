use Rattle.errand_steps.specs.Calls.{take}
use Rattle.benches.proofs.PassLemmas.{made-holds}
use Rattle.benches.proofs.heap.front.PassFront.fetch.Goals as goal

pub returns-clause-holds : goal.returns-clause-holds
returns-clause-holds c = λ held h.
    made-holds c.args.heap.now c.args.self.now c.fetch.new.pass (take c.args.shelf) c.fetch.result held (λ other. tt) c.fetch.ensures h
