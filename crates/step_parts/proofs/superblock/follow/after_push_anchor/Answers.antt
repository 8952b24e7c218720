use Rattle.std.proofs.Common.{rules}
use Rattle.step_parts.proofs.superblock.follow.after_push_anchor.Goals as goal

pub returns-in-Some-2 : goal.returns-in-Some-2
returns-in-Some-2 c = search rules
