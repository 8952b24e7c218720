use Rattle.heap_scripts.specs.stores.Twins.{IsTwin}
use Rattle.heap_scripts.proofs.stores.together.keep_calling.Given as goal

abbrev pub invariant-loop-made : goal.invariant-loop-made
invariant-loop-made l = record { twin : IsTwin l.heap l.twin }
