use Rattle.std.proofs.Common.{rules}
use Rattle.step_parts.proofs.superblock.anchors.popped_state.Goals as goal

pub returns-in-LastCredit : goal.returns-in-LastCredit
returns-in-LastCredit c = search rules
