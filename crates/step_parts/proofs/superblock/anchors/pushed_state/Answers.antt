use Rattle.std.proofs.Common.{rules}
use Rattle.step_parts.proofs.superblock.anchors.pushed_state.Goals as goal

pub returns-in-Full : goal.returns-in-Full
returns-in-Full c = search rules
