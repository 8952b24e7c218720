-- What an owner leaves behind.
use Rattle.std.proofs.Common.{ℕ, ◌≡◌, ◌≢◌, ◌⊎◌, Option, Some, None, refl, sym, ap, subst, ◌∙◌}
use Rattle.std.specs.Arc.{arc_value}
use Rattle.errand_steps.specs.Begins.{IsIdle}
use Rattle.live_heap.specs.Heaps.{HeapFields}
use Rattle.live_heap.specs.declared.pass.Pass.{Pass}
use Rattle.shared_heap.specs.declared.places.Given.{Given}
use Rattle.shared_heap.specs.declared.places.Stand.TheVariants as stand
use Rattle.shared_heap.specs.declared.shared.End.{End}
use Rattle.shared_heap.specs.declared.shared.End.TheVariants as end
use Rattle.shared_heap.specs.declared.shared.Receipt.{Receipt}
use Rattle.shared_heap.specs.declared.shared.SharedHeap.{SharedHeap}
use Rattle.shared_heap.specs.Gathered.{HasEnded}
use Rattle.shared_heap.specs.Places.{IsGiven}
use Rattle.shared_heap.specs.Shares.{HasLeft, IsReceiptFor}

pub receipt-for :
    (shared : SharedHeap) (key : HeapFields) (own : Given) (receipt : Receipt) → key ≡ arc_value shared.heap
    → receipt.seat.table_id ≡ (arc_value shared.places).shared.table_id → IsGiven key own.pass.errand.caller own
    → receipt.seat.me.0 ≡ (key, stand.Counted own receipt.number) → IsReceiptFor shared own.pass receipt
receipt-for shared key own receipt is table given counted = record {
  own = own;
  pass = refl;
  table = table;
  counted = counted ∙ ap (λ (h : HeapFields). (h, stand.Counted own receipt.number)) is;
  given = subst (λ (h : HeapFields). IsGiven h own.pass.errand.caller own) is given;
}

pub left-some :
    (shared : SharedHeap) (caller : ℕ) (pass : Pass) (told : Option Receipt) (receipt : Receipt) (ended : End) → told ≡ Some receipt
    → IsReceiptFor shared pass receipt → HasEnded (arc_value shared.heap) pass receipt.number ended → HasLeft shared caller pass told ended
left-some shared caller pass told receipt ended is receipt_for so = subst (λ (o : Option Receipt). HasLeft shared caller pass o ended) (sym is) (receipt_for, so)

pub left-none :
    (shared : SharedHeap) (caller : ℕ) (pass : Pass) (told : Option Receipt) → told ≡ None
    → (¬ IsIdle pass.errand) ⊎ (caller ≢ pass.errand.caller) → HasLeft shared caller pass told end.NotGiven
left-none shared caller pass told is why = subst (λ (o : Option Receipt). HasLeft shared caller pass o end.NotGiven) (sym is) (refl, why)
