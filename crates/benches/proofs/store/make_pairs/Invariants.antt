use Rattle.typed_store.specs.Stores.{IsReady}
use Rattle.benches.proofs.store.make_pairs.Given as goal

abbrev pub invariant-loop-number : goal.invariant-loop-number
invariant-loop-number g l = record { ready : IsReady l.heap l.store }
