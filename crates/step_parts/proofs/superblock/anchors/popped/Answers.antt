use Rattle.std.proofs.Common.{rules}
use Rattle.step_parts.proofs.superblock.anchors.popped.Goals as goal

pub returns : goal.returns
returns c = search rules
