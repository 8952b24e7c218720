use Rattle.std.proofs.Common.{rules}
use Rattle.step_parts.proofs.stack.point.plan_stack.Goals as goal

pub returns-in-ConfirmEmpty : goal.returns-in-ConfirmEmpty
returns-in-ConfirmEmpty c = search rules

pub returns-in-PopTop : goal.returns-in-PopTop
returns-in-PopTop c = search rules

pub returns-in-StoreBelow : goal.returns-in-StoreBelow
returns-in-StoreBelow c = search rules
