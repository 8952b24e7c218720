use Rattle.std.proofs.Common.{ℕ, ◌≡◌, List}
use Rattle.errand_steps.specs.Calls.{alloc}
use Rattle.live_heap.specs.declared.pass.Pass.{Pass}
use Rattle.live_heap.specs.Calls.{IsCalling}
use Rattle.live_heap.specs.Passes.{IsOf}
use Rattle.typed_store.specs.Stores.{HasList, HasRecords, IsUnderWay}
use Rattle.store_runner.proofs.calls.go_on.Given as goal

-- the store waits for what it waited for, and holds what it held
abbrev pub invariant-loop : goal.invariant-loop
invariant-loop g l = record {
  can_next : (goal.iterator-loop g).can_next l.iterator';
  is_finite : (goal.iterator-loop g).is_finite l.iterator';
  under_way : IsUnderWay l.heap l.store;
  pending : l.store.pending ≡ l.initial.store.pending;
  list : (pairs : List (ℕ × ℕ)) → HasList l.initial.store pairs → HasList l.store pairs;
  records : (records : List (List ℕ)) → HasRecords l.initial.store records → HasRecords l.store records;
  calls :
      (first : Pass) (asked made : ℕ) → IsOf l.heap first → IsCalling first (alloc asked) made l.initial.store.pass
      → (steps : ℕ) × IsCalling first (alloc asked) steps l.store.pass;
}
