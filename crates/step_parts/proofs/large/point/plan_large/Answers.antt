use Rattle.std.proofs.Common.{rules}
use Rattle.step_parts.proofs.large.point.plan_large.Goals as goal

pub returns-in-FreeRun : goal.returns-in-FreeRun
returns-in-FreeRun c = search rules

pub returns-in-StoreRunPrefix : goal.returns-in-StoreRunPrefix
returns-in-StoreRunPrefix c = search rules

pub returns-in-PutBlock : goal.returns-in-PutBlock
returns-in-PutBlock c = search rules

pub returns-in-TakeBlock : goal.returns-in-TakeBlock
returns-in-TakeBlock c = search rules
