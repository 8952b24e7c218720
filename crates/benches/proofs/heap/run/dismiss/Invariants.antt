use Rattle.std.proofs.Common.{◌≡◌, ◌+◌, length, All}
use Rattle.crossbeam_utils.specs.Padded.{padded_value}
use Rattle.benches.specs.declared.heap.worker.Worker.{Worker}
use Rattle.benches.specs.Hands.{Rests}
use Rattle.benches.proofs.heap.run.dismiss.Given as goal

abbrev pub invariant-loop-worker : goal.invariant-loop-worker
invariant-loop-worker g l = record {
  can_next : (goal.iterator-loop-worker g).can_next l.worker-iterator;
  is_finite : (goal.iterator-loop-worker g).is_finite l.worker-iterator;
  left : All (λ w. g.F.Front.rests l.heap (padded_value {T = Worker g.row.F.Denot} w).front) l.worker-iterator.rest.items;
  count : length l.passes.items + length l.worker-iterator.rest.items ≡ length l.fn.workers.items;
  done : All (λ p. Rests l.heap p) l.passes.items;
}
