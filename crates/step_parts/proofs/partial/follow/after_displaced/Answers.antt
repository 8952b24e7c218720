use Rattle.std.proofs.Common.{rules}
use Rattle.step_parts.proofs.partial.follow.after_displaced.Goals as goal

pub returns-in-Some : goal.returns-in-Some
returns-in-Some c = search rules
