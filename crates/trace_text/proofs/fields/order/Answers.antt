use Rattle.std.proofs.Common.{rules}
use Rattle.trace_text.specs.Said.{order_in}
use Rattle.trace_text.proofs.fields.order.Goals as goal

pub returns-then-lane-lanes : goal.returns-then-lane-lanes
unfolding order_in
returns-then-lane-lanes c = search rules
