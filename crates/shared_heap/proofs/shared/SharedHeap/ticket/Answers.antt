use Rattle.std.proofs.Common.{sym, subst, ap, ◌∙◌, arith}
use Rattle.std.specs.Arc.{arc_value}
use Rattle.atomic_table.specs.Table.{Splits}
use Rattle.shared_heap.specs.Places.{Holder, PlacesHold, next_of, rest_of}
use Rattle.shared_heap.proofs.PlaceLemmas.{deals-place}
use Rattle.shared_heap.proofs.shared.SharedHeap.ticket.Goals as goal

pub split_seat-seat-requires : goal.split_seat-seat-requires
split_seat-seat-requires c =
    let shared = c.args.self.now in
    let t = c.deref.result.now.shared in
    let d = c.args.dealer.now in
    let me = c.requires.dealer.deals in (
      c.requires.dealer.table ∙ ap (λ places. places.shared.table_id) (sym c.deref.ensures),
      omega (arith, shared.words, ap (λ places. places.shared.table_id.words) c.deref.ensures),
      subst (λ (m : Holder). Splits (PlacesHold t.key) d.seat.id m.0 (rest_of m.0) (next_of m.0)) (sym me)
          (λ s holds at. deals-place t.key (arc_value shared.heap) s d.seat.id d.next holds at),
    )
