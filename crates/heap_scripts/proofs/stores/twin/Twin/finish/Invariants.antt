use Rattle.heap_scripts.specs.stores.Twins.{IsTwin}
use Rattle.heap_scripts.proofs.stores.twin.Twin.finish.Given as goal

abbrev pub invariant-loop-resumed : goal.invariant-loop-resumed
invariant-loop-resumed l = record { twin : IsTwin l.heap l.self }
