use Rattle.std.proofs.Common.{rules}
use Rattle.step_parts.proofs.stack.point.settle_stack.Goals as goal

pub returns-then-found : goal.returns-then-found
returns-then-found c = search rules
