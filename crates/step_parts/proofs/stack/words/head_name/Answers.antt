use Rattle.std.proofs.Common.{rules}
use Rattle.step_parts.proofs.stack.words.head_name.Goals as goal

pub returns-in-Partials : goal.returns-in-Partials
returns-in-Partials c = search rules
