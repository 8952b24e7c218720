use Rattle.std.proofs.Common.{◌≡◌, ℕ, ◌+◌, ◌-◌, ◌<◌, List, [], ◌∷◌, length, sym, ap, ◌∙◌, subst, arith, rules, refl}
use Rattle.std.specs.Prelude.{None}
use Rattle.heap_geometry.specs.declared.geometry.Geometry.{Geometry}
use Rattle.atomic_region.specs.Region.{Me, Splits}
use Rattle.errand_steps.specs.Errands.{ErrandFields, open_errand}
use Rattle.atomic_region.specs.Owned.{RegionId}
use Rattle.live_heap.specs.Heaps.{HeapFields}
use Rattle.live_heap.specs.declared.pass.Pass.{Pass}
use Rattle.live_heap.specs.declared.view.Standing.{Standing}
use Rattle.live_heap.specs.declared.view.View.{View}
use Rattle.live_heap.specs.Passes.{AreFrom}
use Rattle.live_heap.specs.Views.{first_part, other_part, idle_standing, idles_from}
use Rattle.live_heap.specs.Pieces.{PiecesHold, mark_place}
use Rattle.live_heap.proofs.PieceSeats.{splits-pieces}
use Rattle.live_heap.proofs.Dealt.{idles-more, fresh, AreFrom-push}
use Rattle.live_heap.proofs.heap.Heap.deal.Goals as goal

pub split_seat-next-requires : goal.split_seat-next-requires
split_seat-next-requires g c =
    let h = c.args.self.now in
    let v = c.loop-caller.rest.me.0 in
    let lays : v.lays ≡ None = ap (λ (m : Me View). m.0.lays) c.loop-caller.invariant.me in
    let home : v.lent ≡ [] = ap (λ (m : Me View). m.0.lent) c.loop-caller.invariant.me in
    let inner = c.self.inside in
    let reg = ap (λ (x : HeapFields). x.region) c.self.view_is in
    let key = inner.laid.1 ∙ ap (λ (x : HeapFields). x.layout) c.self.view_is in
    let S : ℕ → Type 0 = λ place. Splits (PiecesHold g.R.ShelfRule.allows inner.table.shared.key) inner.table.shared.id.words place c.loop-caller.rest.id v (first_part v) (other_part v) in (
      c.loop-caller.invariant.table ∙ sym reg,
      c.start-start.ensures,
      subst (λ (z : RegionId). c.first_mark-mark.result < z.words) (sym reg) c.first_mark-mark.ensures.within,
      subst S (ap (λ (k : Geometry). mark_place k 0) key ∙ sym c.first_mark-mark.ensures.place)
          (splits-pieces inner.table.shared.key inner.table.shared.id.words c.loop-caller.rest.id v lays home),
    )

pub loop-caller-preserved : goal.loop-caller-preserved
loop-caller-preserved g c =
    let h = c.args.self.now in
    let i = c.loop-caller.invariant in
    let n = c.loop-caller.caller in
    let s = c.split_seat-next.ensures in
    let layout = h.layout in
    let same : c.geometry-geometry.result ≡ layout = c.geometry-geometry.ensures.value ∙ ap (λ (x : HeapFields). x.layout) c.self.view_is in
    let many = ap (λ (x : Geometry). x.callers) same in
    let left = layout.callers - n in
    let some_left : 0 < left = omega (arith, many, c.loop-caller-test.true) in
    let more = idles-more layout n left some_left in
    let one_less : left - 1 ≡ layout.callers - (n + 1) = omega arith in
    let V : List Standing → Me View = λ l. (record { callers = l; seen = []; wins = []; lays = None; ready = []; lent = [] }, []) in
    let now : c.loop-caller.rest.me ≡ V (idle_standing layout n ∷ idles_from layout (n + 1) (layout.callers - (n + 1))) =
    i.me ∙ ap V (more ∙ ap (λ (k : ℕ). idle_standing layout n ∷ idles_from layout (n + 1) k) one_less) in
    let p : Pass = record { seat = c.split_seat-next.new.seat; errand = c.open.result; out = 0 } in
    let errand : c.open.result ≡ open_errand n layout = c.open.ensures ∙ ap (open_errand n) same in
    let has : n < layout.callers = omega (arith, some_left) in
    let is_fresh = fresh h p n has (s.old.0 ∙ i.table) (s.old.2 ∙ ap (λ (m : Me View). (first_part m.0, m.1)) now) refl errand in
    let number : c.open.result.caller ≡ 0 + length c.loop-caller.passes.items = ap (λ (e : ErrandFields). e.caller) errand ∙ omega (arith, i.len) in
    record {
      table = s.new.0 ∙ i.table;
      me = s.new.1 ∙ ap (λ (m : Me View). (other_part m.0, [])) now;
      dealt = subst (λ (l : List Pass). AreFrom h 0 l) (sym c.push_reserved.ensures.items) (AreFrom-push h 0 c.loop-caller.passes.items p i.dealt is_fresh number);
      len = search rules;
      room = search rules;
    }
