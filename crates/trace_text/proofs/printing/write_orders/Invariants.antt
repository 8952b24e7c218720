use Rattle.std.proofs.Common.{◌≡◌, ◌++◌, take}
use Rattle.std.specs.List.{flat_map}
use Rattle.trace_text.specs.Text.{order_line}
use Rattle.trace_text.proofs.printing.write_orders.Given as goal

abbrev pub invariant-loop-run : goal.invariant-loop-run
invariant-loop-run l = l.text ≡ l.fn.text ++ flat_map order_line (take l.run-index l.orders)
