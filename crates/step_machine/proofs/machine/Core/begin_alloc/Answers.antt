use Rattle.errand_steps.specs.Calls.{alloc}
use Rattle.step_machine.proofs.CoreLemmas.{core-begun}
use Rattle.step_machine.proofs.machine.Core.begin_alloc.Goals as goal

pub invariant_of-self : goal.invariant_of-self
invariant_of-self c =
    core-begun _ c.args.self.now c.args.caller (alloc c.args.need) c.index_mut.result.now c.begin_alloc.new.self c.self.invariant
    c.self.view_is c.requires.caller c.index_mut.ensures.value c.requires.idle tt c.begin_alloc.ensures.errand
