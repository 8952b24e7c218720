use Rattle.std.proofs.Common.{ap}
use Rattle.step_machine.specs.Cores.{CoreFields}
use Rattle.step_machine.specs.Steps.{stepped}
use Rattle.step_machine.proofs.machine.Core.fill_slot.Goals as goal

pub returns-in_ok-step-clause-counts : goal.returns-in_ok-step-clause-counts
unfolding stepped
returns-in_ok-step-clause-counts c = ap (λ (v : CoreFields). v.steps) c.in_ok-step.ensures.ok.exact
