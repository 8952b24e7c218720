use Rattle.std.proofs.Common.{rules}
use Rattle.step_parts.proofs.stack.heads.pushed_head.Goals as goal

pub returns : goal.returns
returns c = search rules
