use Rattle.std.proofs.Common.{◌≡◌, All}
use Rattle.crossbeam_utils.specs.Padded.{padded_value}
use Rattle.benches.specs.declared.heap.bare.Walker.{Walker}
use Rattle.benches.proofs.heap.bare.access.Given as goal

abbrev pub invariant-loop-caller : goal.invariant-loop-caller
invariant-loop-caller g l = record {
  seat : l.seat.table_id ≡ l.table.shared.table_id;
  walkers : All (λ w. (padded_value {T = Walker} w).seat.table_id ≡ l.table.shared.table_id) l.walkers.items;
}
