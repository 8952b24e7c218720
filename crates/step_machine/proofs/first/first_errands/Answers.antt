use Rattle.step_machine.proofs.FirstLemmas.{errands-push}
use Rattle.step_machine.proofs.first.first_errands.Goals as goal

pub loop-caller-preserved : goal.loop-caller-preserved
loop-caller-preserved c =
    rw c.in_ok-push.ensures.items
    (errands-push c.args.geometry c.loop-caller.caller c.loop-caller.errands.items c.open.result c.loop-caller.invariant c.open.ensures)
