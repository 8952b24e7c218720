use Rattle.std.proofs.Common.{ℕ}
use Rattle.errand_steps.specs.Calls.{Call}
use Rattle.live_heap.specs.declared.pass.Pass.{Pass}
use Rattle.live_heap.specs.Calls.{IsCalling}
use Rattle.live_heap.specs.Passes.{IsOf}
use Rattle.pipe_runner.proofs.whole.go_on.Given as goal

abbrev pub invariant-loop : goal.invariant-loop
invariant-loop g l = record {
  can_next : (goal.iterator-loop g).can_next l.iterator';
  is_finite : (goal.iterator-loop g).is_finite l.iterator';
  of : IsOf l.heap l.pass;
  calls :
      (first : Pass) (call : Call) (made : ℕ) → IsOf l.heap first → IsCalling first call made l.initial.pass
      → (steps : ℕ) × IsCalling first call steps l.pass;
}
