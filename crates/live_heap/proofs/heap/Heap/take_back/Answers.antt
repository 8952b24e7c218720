use Rattle.std.proofs.Common.{ℕ, sym, subst, ap, ◌∙◌, ◌<◌}
use Rattle.heap_geometry.specs.declared.geometry.Geometry.{Geometry}
use Rattle.atomic_region.specs.Region as region
use Rattle.atomic_region.specs.Owned.{RegionId}
use Rattle.live_heap.specs.Heaps.{HeapFields}
use Rattle.live_heap.specs.Lending.{HasReturned}
use Rattle.live_heap.specs.Pieces.{PiecesHold}
use Rattle.live_heap.proofs.ComesBack.{may-return}
use Rattle.live_heap.proofs.heap.Heap.take_back.Goals as goal

pub load-requires : goal.load-requires
load-requires g c =
    let h = c.args.self.now in
    let inner = c.self.inside in
    let reg = ap (λ (x : HeapFields). x.region) c.self.view_is in
    let key = inner.laid.1 ∙ ap (λ (x : HeapFields). x.layout) c.self.view_is in
    let r = c.requires in
    let id = inner.table.shared.id in
    let seat = c.args.seat.now in
    let block = g.L.Lending.block in
    let made = g.L.Lending.made in
    let shown = g.L.Lending.shown in
    let Returns : Geometry → ℕ → Type 0 = λ key mark.
    region.Allows (PiecesHold g.R.ShelfRule.allows key) id.words seat.id seat.me mark (λ n. n)
    (λ _ after. HasReturned g.L.Lending.owner block made shown seat.me.0 after) in (
      r.table ∙ sym reg,
      c.start-start.ensures,
      subst (λ (z : RegionId). c.args.mark < z.words) (sym reg) r.within,
      subst (λ key. Returns key c.args.mark) (sym key)
          (subst (Returns h.layout) (sym r.mark)
          (may-return h.layout id.words seat.id seat.me g.L.Lending.owner block made shown h.checked r.may)),
    )
