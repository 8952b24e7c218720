use Rattle.std.proofs.Common.{◌≡◌, ◌<◌, sym, subst, ap, ◌∙◌}
use Rattle.heap_geometry.specs.declared.geometry.Geometry.{Geometry}
use Rattle.atomic_region.specs.Region as region
use Rattle.atomic_region.specs.Owned.{RegionId}
use Rattle.live_heap.specs.Heaps.{HeapFields}
use Rattle.live_heap.specs.Pieces.{PiecesHold}
use Rattle.live_heap.proofs.Resting.{may-rest}
use Rattle.live_heap.proofs.heap.Heap.clear_mark.Goals as goal

pub store-requires : goal.store-requires
store-requires g c =
    let h = c.args.self.now in
    let inner = c.self.inside in
    let reg = ap (λ (x : HeapFields). x.region) c.self.view_is in
    let key = inner.laid.1 ∙ ap (λ (x : HeapFields). x.layout) c.self.view_is in
    let r = c.requires in
    let id = inner.table.shared.id in
    let seat = c.args.seat.now in
    let Rests : Geometry → Type 0 = λ key.
    region.Allows (PiecesHold g.R.ShelfRule.allows key) id.words seat.id seat.me c.args.mark (λ _. 0) (λ _ after. after ≡ seat.me) in (
      r.table ∙ sym reg,
      c.start-start.ensures,
      subst (λ (z : RegionId). c.args.mark < z.words) (sym reg) r.within,
      subst Rests (sym key) (may-rest h.layout id.words seat.id seat.me c.args.mark h.checked r.mark),
    )
