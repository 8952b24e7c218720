use Rattle.std.proofs.Common.{rules}
use Rattle.step_parts.proofs.hazard.follow.after_head.Goals as goal

pub returns-in-Some : goal.returns-in-Some
returns-in-Some c = search rules
