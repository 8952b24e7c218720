use Rattle.std.proofs.Common.{◌≡◌}
use Rattle.benches.proofs.heap.bare.walk.Given as goal

abbrev pub invariant-loop-number : goal.invariant-loop-number
invariant-loop-number l = record { seat : l.walker.seat.table_id ≡ l.table.shared.table_id }
