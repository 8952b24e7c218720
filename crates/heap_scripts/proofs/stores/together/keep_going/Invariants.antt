use Rattle.heap_scripts.specs.stores.Twins.{IsRival}
use Rattle.heap_scripts.proofs.stores.together.keep_going.Given as goal

abbrev pub invariant-loop-made : goal.invariant-loop-made
invariant-loop-made l = record { rival : IsRival l.heap l.rival }
