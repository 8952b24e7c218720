use Rattle.errand_steps.specs.Calls.{read}
use Rattle.step_machine.proofs.CoreLemmas.{block-begun, core-begun}
use Rattle.step_machine.proofs.machine.Core.begin_read.Goals as goal

pub begin_read-requires-clause-block : goal.begin_read-requires-clause-block
begin_read-requires-clause-block c =
    block-begun _ c.args.self.now c.args.caller c.args.place c.args.need c.index_mut.result.now c.self.invariant c.self.view_is
    c.requires.caller c.index_mut.ensures.value c.requires.owned

pub invariant_of-self : goal.invariant_of-self
invariant_of-self c =
    core-begun _ c.args.self.now c.args.caller (read c.args.place c.args.need c.args.i) c.index_mut.result.now c.begin_read.new.self c.self.invariant
    c.self.view_is c.requires.caller c.index_mut.ensures.value c.requires.idle (record { block = c.requires.owned }, c.requires.word) c.begin_read.ensures
