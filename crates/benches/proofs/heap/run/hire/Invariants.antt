use Rattle.std.proofs.Common.{◌≡◌, ℕ, ◌+◌, length, All}
use Rattle.crossbeam_utils.specs.Padded.{padded_value}
use Rattle.live_heap.specs.Passes.{AreFrom}
use Rattle.benches.specs.declared.heap.worker.Worker.{Worker}
use Rattle.benches.specs.Hands.{IsReady}
use Rattle.benches.proofs.heap.run.hire.Given as goal

abbrev pub invariant-loop-pass : goal.invariant-loop-pass
invariant-loop-pass g l = record {
  can_next : (goal.iterator-loop-pass g).can_next l.pass-iterator;
  is_finite : (goal.iterator-loop-pass g).is_finite l.pass-iterator;
  left : (caller : ℕ) × AreFrom l.heap caller l.pass-iterator.rest.items;
  count : length l.workers.items + length l.pass-iterator.rest.items ≡ length l.fn.passes.items;
  ready : All (λ w. IsReady g.F.Front.rests g.F.Front.holds l.heap (padded_value {T = Worker g.row.F.Denot} w)) l.workers.items;
}
