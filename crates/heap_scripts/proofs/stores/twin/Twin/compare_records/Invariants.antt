use Rattle.std.proofs.Common.{◌≡◌}
use Rattle.typed_store.specs.declared.store.Pending.TheVariants.{Nothing}
use Rattle.heap_scripts.specs.stores.Twins.{IsTwin}
use Rattle.heap_scripts.proofs.stores.twin.Twin.compare_records.Given as goal

abbrev pub invariant-loop-number : goal.invariant-loop-number
invariant-loop-number l = record { twin : IsTwin l.heap l.self; idle : l.self.waits ≡ Nothing }
