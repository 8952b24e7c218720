use Rattle.std.proofs.Common.{ℕ, List}
use Rattle.typed_store.specs.Stores.{HasList, HasRecords, IsReady}
use Rattle.store_runner.specs.Counts.{CountsBlocks}
use Rattle.store_runner.proofs.calls.push.Given as goal

abbrev pub invariant-loop : goal.invariant-loop
invariant-loop g l = record {
  can_next : (goal.iterator-loop g).can_next l.iterator';
  is_finite : (goal.iterator-loop g).is_finite l.iterator';
  ready : IsReady l.heap l.store;
  list : (pairs : List (ℕ × ℕ)) → HasList l.initial.store pairs → HasList l.store pairs;
  records : (records : List (List ℕ)) → HasRecords l.initial.store records → HasRecords l.store records;
  counts : CountsBlocks 0 0 l.initial.store.pass l.store.pass;
}
