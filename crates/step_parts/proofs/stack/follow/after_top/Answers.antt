use Rattle.std.proofs.Common.{rules}
use Rattle.step_parts.proofs.stack.follow.after_top.Goals as goal

pub returns-else-from-pile_limit : goal.returns-else-from-pile_limit
returns-else-from-pile_limit c = search rules
