use Rattle.std.proofs.Common.{arith}
use Rattle.errand_steps.specs.Calls.{write}
use Rattle.step_machine.proofs.CoreLemmas.{block-begun, core-begun}
use Rattle.step_machine.proofs.machine.Core.begin_write.Goals as goal

pub begin_write-requires-clause-block : goal.begin_write-requires-clause-block
begin_write-requires-clause-block c =
    block-begun _ c.args.self.now c.args.caller c.args.place c.args.need c.index_mut.result.now c.self.invariant c.self.view_is
    c.requires.caller c.index_mut.ensures.value c.requires.owned

pub invariant_of-self : goal.invariant_of-self
invariant_of-self c =
    core-begun _ c.args.self.now c.args.caller (write c.args.place c.args.need c.args.i c.args.v) c.index_mut.result.now c.begin_write.new.self c.self.invariant
    c.self.view_is c.requires.caller c.index_mut.ensures.value c.requires.idle (record { block = c.requires.owned }, c.requires.word, omega (arith, c.ranges.v)) c.begin_write.ensures
