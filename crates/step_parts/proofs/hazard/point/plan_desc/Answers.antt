use Rattle.std.proofs.Common.{rules}
use Rattle.step_parts.proofs.hazard.point.plan_desc.Goals as goal

pub returns-in-ClearAfterPop : goal.returns-in-ClearAfterPop
returns-in-ClearAfterPop c = search rules

pub returns-in-PushDesc : goal.returns-in-PushDesc
returns-in-PushDesc c = search rules
