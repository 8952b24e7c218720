use Rattle.errand_steps.specs.Calls.{take}
use Rattle.step_machine.proofs.CoreLemmas.{core-begun}
use Rattle.step_machine.proofs.machine.Core.begin_take.Goals as goal

pub invariant_of-self : goal.invariant_of-self
invariant_of-self c =
    core-begun _ c.args.self.now c.args.caller (take c.args.shelf) c.index_mut.result.now c.begin_take.new.self c.self.invariant
    c.self.view_is c.requires.caller c.index_mut.ensures.value c.requires.idle c.requires.shelf c.begin_take.ensures
