use Rattle.std.proofs.Common.{ℕ, ◌≢◌}
use Rattle.typed_store.specs.declared.store.Pending.TheVariants as pending
use Rattle.typed_store.specs.Stores.{IsUnderWay}
use Rattle.benches.proofs.store.finish.Given as goal

abbrev pub invariant-loop : goal.invariant-loop
invariant-loop g l = record {
  can_next : (goal.iterator-loop g).can_next l.iterator';
  is_finite : (goal.iterator-loop g).is_finite l.iterator';
  under_way : IsUnderWay l.heap l.store;
  no_record : (many : ℕ) → l.store.pending ≢ pending.Record many;
}
