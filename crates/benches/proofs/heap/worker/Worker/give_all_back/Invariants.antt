use Rattle.std.proofs.Common.{vec_len}
use Rattle.benches.specs.Hands.{IsWorking}
use Rattle.benches.proofs.heap.worker.Worker.give_all_back.Given as goal

abbrev pub invariant-loop-self : goal.invariant-loop-self
invariant-loop-self g l = record { working : IsWorking g.F.Front.rests g.F.Front.holds l.heap l.self }

abbrev pub decreases-loop-self : goal.decreases-loop-self
decreases-loop-self g l = vec_len l.self.hand
