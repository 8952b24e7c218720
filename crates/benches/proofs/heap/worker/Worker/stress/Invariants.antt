use Rattle.benches.specs.Hands.{IsWorking}
use Rattle.benches.proofs.heap.worker.Worker.stress.Given as goal

abbrev pub invariant-loop : goal.invariant-loop
invariant-loop g l = record { working : IsWorking g.F.Front.rests g.F.Front.holds l.heap l.self }
