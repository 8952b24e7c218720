use Rattle.benches.specs.Hands.{Keeps}
use Rattle.benches.proofs.heap.rounds.turn_over.Given as goal

abbrev pub invariant-loop-round : goal.invariant-loop-round
invariant-loop-round g l = record { rests : g.F.Front.rests l.heap l.front; keeps : Keeps g.F.Front.holds l.fn.front l.front }
