use Rattle.pipe_runner.proofs.CallSteps.{not-given}
use Rattle.pipe_runner.proofs.EndLemmas.{none-given}
use Rattle.pipe_runner.proofs.calls.try_allocate.Goals as goal

pub returns-in_default-clause-none : goal.returns-in_default-clause-none
returns-in_default-clause-none g c = λ is.
    let h = c.args.heap.now in
    let p = c.args.pass.now in
    let q = c.allocate.new.pass in
    let other = c.in_default.not-Given in (
      not-given h p q c.allocate.result c.requires.rest.0 other c.allocate.ensures,
      none-given h p q c.allocate.result other c.allocate.ensures,
    )
