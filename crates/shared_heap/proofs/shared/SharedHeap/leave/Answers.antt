use Rattle.std.proofs.Common.{◌≡◌, Option, IfSome, IsSomeAnd, ⊎_elim, sym, ap, subst, ◌∙◌}
use Rattle.std.specs.Arc.{arc_value}
use Rattle.live_heap.specs.Heaps.{HeapFields}
use Rattle.shared_heap.specs.declared.places.Given.{Given}
use Rattle.shared_heap.specs.declared.shared.Receipt.{Receipt}
use Rattle.shared_heap.specs.Counted.{TakesOver}
use Rattle.shared_heap.specs.Gathered.{HasEnded, IsCounted}
use Rattle.shared_heap.specs.Shares.{HasLeft, IsReceiptFor}
use Rattle.shared_heap.proofs.LeaveLemmas.{left-none, left-some, receipt-for}
use Rattle.shared_heap.proofs.shared.SharedHeap.leave.Goals.{in-None, in-Some}
use Rattle.shared_heap.proofs.shared.SharedHeap.leave.Goals as goal

pub ended-end-requires-clause-receipt : goal.ended-end-requires-clause-receipt
ended-end-requires-clause-receipt c =
    let own : Given = record { pass = c.args.pass; share = c.args.self.heap } in
    let places = c.deref-2.result.now in
    let receipt = c.in-Some.receipt in
    let same = c.deref-2.ensures ∙ sym c.deref-in-Some.ensures in
    let counted = subst (λ (o : Option Receipt). IfSome o (IsCounted places.shared.key places.shared.table_id own)) c.in-Some.is c.give_back-given.ensures.laid in (
      own,
      counted.0 ∙ ap (λ t. t.shared.table_id) same,
      subst (λ t. TakesOver t.shared.key own receipt.number receipt.seat.me.1) same counted.3,
    )

pub returns-clause-given : goal.returns-clause-given
returns-clause-given c idle caller =
    let own : Given = record { pass = c.args.pass; share = c.args.self.heap } in
    let shared = c.args.self in
    let places = c.deref-2.result.now in
    elim c.match-given.branch [
      | in-None w ↦ ⊎_elim (λ busy. absurd (busy idle)) (λ other. absurd (other caller)) (c.give_back-given.ensures.let_go w.in-None.is)
      | in-Some w ↦
          let receipt = w.in-Some.receipt in
          let counted = subst (λ (o : Option Receipt). IfSome o (IsCounted places.shared.key places.shared.table_id own)) w.in-Some.is c.give_back-given.ensures.laid in
          let is : places.shared.key ≡ arc_value shared.heap = ap (λ t. t.shared.key) c.deref-2.ensures ∙ c.same.ensures in
          let for_it : IsReceiptFor shared c.args.pass receipt =
          receipt-for shared places.shared.key own receipt is (counted.0 ∙ ap (λ t. t.shared.table_id) c.deref-2.ensures) counted.1 counted.2 in
          subst (λ (o : Option Receipt). IsSomeAnd o (IsReceiptFor shared c.args.pass)) (sym (c.of-receipt.ensures ∙ w.in-Some.is)) for_it
    ]

pub returns-clause-left : goal.returns-clause-left
returns-clause-left c =
    let own : Given = record { pass = c.args.pass; share = c.args.self.heap } in
    let shared = c.args.self in
    let told = c.of-receipt.result.value in
    let caller = c.args.ticket.caller in
    let pass = c.args.pass in
    let places = c.deref-2.result.now in
    elim c.match-given.branch [
      | in-None w ↦
          subst (HasLeft shared caller pass told) (sym w.end-is)
          (left-none shared caller pass told (c.of-receipt.ensures ∙ w.in-None.is) (c.give_back-given.ensures.let_go w.in-None.is))
      | in-Some w ↦
          let receipt = w.in-Some.receipt in
          let counted = subst (λ (o : Option Receipt). IfSome o (IsCounted places.shared.key places.shared.table_id own)) w.in-Some.is c.give_back-given.ensures.laid in
          let is : places.shared.key ≡ arc_value shared.heap = ap (λ t. t.shared.key) c.deref-2.ensures ∙ c.same.ensures in
          let for_it : IsReceiptFor shared pass receipt =
          receipt-for shared places.shared.key own receipt is (counted.0 ∙ ap (λ t. t.shared.table_id) c.deref-2.ensures) counted.1 counted.2 in
          let other = w.deref-in-Some.result.now in
          let same = c.deref-2.ensures ∙ sym w.deref-in-Some.ensures in
          let over = subst (λ t. TakesOver t.shared.key own receipt.number receipt.seat.me.1) same counted.3 in
          let is_too : other.shared.key ≡ arc_value shared.heap = ap (λ t. t.shared.key) w.deref-in-Some.ensures ∙ c.same.ensures in
          let ended : HasEnded (arc_value shared.heap) pass receipt.number w.ended-end.result =
          subst (λ (h : HeapFields). HasEnded h pass receipt.number w.ended-end.result) is_too (w.ended-end.ensures own over) in
          subst (HasLeft shared caller pass told) (sym w.end-is)
          (left-some shared caller pass told receipt w.ended-end.result (c.of-receipt.ensures ∙ w.in-Some.is) for_it ended)
    ]
