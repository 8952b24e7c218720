use Rattle.std.proofs.Common.{ap, rules}
use Rattle.step_machine.specs.Cores.{CoreFields}
use Rattle.step_machine.specs.Steps.{stepped}
use Rattle.step_machine.proofs.machine.Core.fill_slot_replied.Goals as goal

pub returns-clause-counts : goal.returns-clause-counts
unfolding stepped
returns-clause-counts c = ap (λ (v : CoreFields). v.steps) c.in_ok-progress.ensures.ok.exact

pub returns-clause-replied : goal.returns-clause-replied
returns-clause-replied c = search rules
