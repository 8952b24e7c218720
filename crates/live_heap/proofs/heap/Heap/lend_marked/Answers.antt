use Rattle.std.proofs.Common.{ℕ, ◌≡◌, [], sym, subst, ap, ◌∙◌, ◌<◌}
use Rattle.heap_geometry.specs.declared.geometry.Geometry.{Geometry}
use Rattle.atomic_region.specs.Region as region
use Rattle.atomic_region.specs.Region.{Me}
use Rattle.atomic_region.specs.Owned.{RegionId}
use Rattle.live_heap.specs.Heaps.{HeapFields}
use Rattle.live_heap.specs.declared.view.View.{View}
use Rattle.live_heap.specs.Lending.{LendsWhere}
use Rattle.live_heap.specs.Pieces.{PiecesHold}
use Rattle.live_heap.proofs.LendsOut.{may-lend_marked}
use Rattle.live_heap.proofs.heap.Heap.lend_marked.Goals as goal

pub load-requires : goal.load-requires
load-requires g c =
    let h = c.args.self.now in
    let inner = c.self.inside in
    let reg = ap (λ (x : HeapFields). x.region) c.self.view_is in
    let key = inner.laid.1 ∙ ap (λ (x : HeapFields). x.layout) c.self.view_is in
    let r = c.requires in
    let id = inner.table.shared.id in
    let seat = c.args.seat.now in
    let block = g.L.Lending.block in
    let Lends : Geometry → Me View → ℕ → Type 0 = λ key me mark.
    region.Allows (PiecesHold g.R.ShelfRule.allows key) id.words seat.id me mark (λ n. n) (λ n after. LendsWhere block.place block.need n me after) in
    let none_out : seat.me ≡ (seat.me.0, []) = λ i. (seat.me.0, r.empty i) in (
      r.table ∙ sym reg,
      c.start-start.ensures,
      subst (λ (z : RegionId). c.args.mark < z.words) (sym reg) r.within,
      subst (λ key. Lends key seat.me c.args.mark) (sym key)
          (subst (λ me. Lends h.layout me c.args.mark) (sym none_out)
          (subst (Lends h.layout (seat.me.0, [])) (sym r.mark)
          (may-lend_marked h.layout id.words seat.id seat.me.0 g.L.Lending.owner block.place block.need h.checked r.may))),
    )
