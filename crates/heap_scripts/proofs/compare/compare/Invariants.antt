use Rattle.heap_scripts.specs.Sides.{AreSides}
use Rattle.heap_scripts.proofs.compare.compare.Given as goal

abbrev pub invariant-loop : goal.invariant-loop
invariant-loop l = record { sides : AreSides l.twins }

abbrev pub invariant-loop-who : goal.invariant-loop-who
invariant-loop-who l = record { sides : AreSides l.twins }
