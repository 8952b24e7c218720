use Rattle.std.proofs.Common.{rules}
use Rattle.errand_steps.proofs.enter.partials.leave_partial.Goals as goal

pub returns-in-Removed : goal.returns-in-Removed
returns-in-Removed c = search rules
