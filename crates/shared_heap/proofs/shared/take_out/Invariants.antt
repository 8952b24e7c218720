use Rattle.std.proofs.Common.{◌≡◌, List, length, vec_capacity}
use Rattle.shared_heap.specs.declared.places.Given.{Given}
use Rattle.shared_heap.specs.Counted.{AreShares, slots_from}
use Rattle.shared_heap.proofs.EndLemmas.{Going}
use Rattle.shared_heap.proofs.shared.take_out.Given as goal

abbrev pub invariant-loop-place : goal.invariant-loop-place
invariant-loop-place l = record {
  table : l.seat.table_id ≡ l.places.shared.table_id;
  room : vec_capacity l.passes ≡ l.callers;
  going :
      (givens : List Given) → l.fn.seat.me.1 ≡ slots_from 0 givens → length givens ≡ l.callers → AreShares l.places.shared.key givens
      → Going l.places.shared.key givens l.place l.seat.me.1 l.passes.items l.heap;
}
