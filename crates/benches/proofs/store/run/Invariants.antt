use Rattle.std.proofs.Common.{◌≡◌, ℕ, ◌+◌, length, All}
use Rattle.errand_steps.specs.Begins.{IsIdle}
use Rattle.live_heap.specs.Passes.{AreFrom, IsOf}
use Rattle.benches.proofs.store.run.Given as goal

abbrev pub invariant-loop-pass : goal.invariant-loop-pass
invariant-loop-pass g l = record {
  can_next : (goal.iterator-loop-pass g).can_next l.pass-iterator;
  is_finite : (goal.iterator-loop-pass g).is_finite l.pass-iterator;
  left : (caller : ℕ) × AreFrom l.heap caller l.pass-iterator.rest.items;
  count : length l.done.items + length l.pass-iterator.rest.items ≡ l.command.geometry.callers;
  done : All (λ p. IsOf l.heap p × IsIdle p.errand) l.done.items;
  home : All (λ p. p.out ≡ 0) l.done.items;
}
