use Rattle.std.proofs.Common.{rules}
use Rattle.step_parts.proofs.superblock.anchors.is_last.Goals as goal

pub returns : goal.returns
returns c = search rules
