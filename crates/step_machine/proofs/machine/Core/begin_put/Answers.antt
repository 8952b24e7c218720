use Rattle.errand_steps.specs.Calls.{put}
use Rattle.step_machine.proofs.CoreLemmas.{block-begun, core-begun}
use Rattle.step_machine.proofs.machine.Core.begin_put.Goals as goal

pub begin_put-requires-clause-block : goal.begin_put-requires-clause-block
begin_put-requires-clause-block c =
    block-begun _ c.args.self.now c.args.caller c.args.place c.args.need c.index_mut.result.now c.self.invariant c.self.view_is
    c.requires.caller c.index_mut.ensures.value c.requires.owned

pub invariant_of-self : goal.invariant_of-self
invariant_of-self c =
    core-begun _ c.args.self.now c.args.caller (put c.args.place c.args.need c.args.shelf) c.index_mut.result.now c.begin_put.new.self c.self.invariant
    c.self.view_is c.requires.caller c.index_mut.ensures.value c.requires.idle (record { block = c.requires.owned }, c.requires.shelf) c.begin_put.ensures
