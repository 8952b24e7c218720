use Rattle.std.proofs.Common.{rules}
use Rattle.step_parts.proofs.partial.point.plan_partial.Goals as goal

pub returns-in-StoreOwner : goal.returns-in-StoreOwner
returns-in-StoreOwner c = search rules

pub returns-in-PutSlot : goal.returns-in-PutSlot
returns-in-PutSlot c = search rules
