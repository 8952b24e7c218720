use Rattle.std.proofs.Common.{rules}
use Rattle.step_parts.proofs.superblock.point.plan_block.Goals as goal

pub returns-in-StoreLink : goal.returns-in-StoreLink
returns-in-StoreLink c = search rules
