use Rattle.heap_scripts.specs.stores.Twins.{IsRival, IsTwin}
use Rattle.heap_scripts.proofs.stores.together.run_by_turns.Given as goal

abbrev pub invariant-loop-made : goal.invariant-loop-made
invariant-loop-made l = record { twin : IsTwin l.heap l.twin; rival : IsRival l.heap l.rival }
