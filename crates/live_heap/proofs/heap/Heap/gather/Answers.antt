use Rattle.std.specs.Prelude.{option_to_list, sum_by}
use Rattle.std.proofs.lemmas.List.Sums.{sum_by-append}
use Rattle.std.proofs.Common.{◌≡◌, ℕ, List, [], ◌∷◌, ◌++◌, length, All, sym, ap, ◌∙◌, subst, arith, length-append, append_assoc, ◌<◌}
use Rattle.errand_steps.specs.Begins.{IsIdle}
use Rattle.atomic_region.specs.Region.{Me, Joins}
use Rattle.heap_geometry.specs.declared.geometry.Geometry.{Geometry}
use Rattle.atomic_region.specs.Owned.{RegionId}
use Rattle.live_heap.specs.Heaps.{HeapFields}
use Rattle.live_heap.specs.declared.view.Standing.{Standing}
use Rattle.live_heap.specs.declared.view.View.{View}
use Rattle.live_heap.specs.declared.pass.Pass.{Pass}
use Rattle.live_heap.specs.Endings.{IsIn}
use Rattle.live_heap.specs.Passes.{IsOf}
use Rattle.live_heap.specs.Pieces.{PiecesHold, mark_place}
use Rattle.live_heap.specs.Views.{gathered, spent_view}
use Rattle.live_heap.proofs.PieceSeats.{joins-pieces}
use Rattle.live_heap.proofs.Gathering.{front, last, one-idle, one-sum, all-idle, is_in-itself, more-in, nothing-out, one-in}
use Rattle.live_heap.proofs.heap.Heap.gather.Goals as goal

pub join_seat-requires : goal.join_seat-requires
join_seat-requires g c =
    let h = c.args.self.now in
    let i = c.loop-pass.invariant in
    let P : Pass → Type 0 = λ p. IsOf h p × IsIdle p.errand × (p.out ≡ 0) in
    let taken = subst (λ (l : List Pass). All P l) c.in-Some.ensures.items i.others in
    let mine = last (λ (p : Pass). IsOf h p × IsIdle p.errand × (p.out ≡ 0)) c.pop-in-loop-pass.new.self.items c.in-Some.pass taken in
    let v = c.loop-pass.seat.me.0 in
    let w = c.in-Some.pass.seat.me.0 in
    let inner = c.self.inside in
    let reg = ap (λ (x : HeapFields). x.region) c.self.view_is in
    let key = inner.laid.1 ∙ ap (λ (x : HeapFields). x.layout) c.self.view_is in
    let J : ℕ → Type 0 = λ place. Joins (PiecesHold g.R.ShelfRule.allows inner.table.shared.key) inner.table.shared.id.words place c.loop-pass.seat.id v c.in-Some.pass.seat.id w (gathered v w) spent_view in (
      i.table ∙ sym reg,
      mine.0.table ∙ sym reg,
      c.start-start.ensures,
      subst (λ (z : RegionId). c.first_mark-mark.result < z.words) (sym reg) c.first_mark-mark.ensures.within,
      subst J (ap (λ (k : Geometry). mark_place k 0) key ∙ sym c.first_mark-mark.ensures.place)
          (joins-pieces inner.table.shared.key inner.table.shared.id.words c.loop-pass.seat.id v c.in-Some.pass.seat.id w i.settled mine.0.settled i.home (nothing-out h c.in-Some.pass mine.0 mine.2)),
    )

pub loop-pass-preserved : goal.loop-pass-preserved
loop-pass-preserved g c =
    let h = c.args.self.now in
    let i = c.loop-pass.invariant in
    let P : Pass → Type 0 = λ p. IsOf h p × IsIdle p.errand × (p.out ≡ 0) in
    let taken = subst (λ (l : List Pass). All P l) c.in-Some.ensures.items i.others in
    let mine = last (λ (p : Pass). IsOf h p × IsIdle p.errand × (p.out ≡ 0)) c.pop-in-loop-pass.new.self.items c.in-Some.pass taken in
    let one = one-idle h c.in-Some.pass mine.0 mine.1 in
    let j = c.join_seat.ensures in
    let errands : c.join_seat.new.seat.me.0.callers ≡ c.loop-pass.seat.me.0.callers ++ c.in-Some.pass.seat.me.0.callers = ap (λ (m : Me View). m.0.callers) j.2 in
    let n = length-append c.loop-pass.seat.me.0.callers c.in-Some.pass.seat.me.0.callers in
    let was = ap length c.in-Some.ensures.items in
    let m = length-append c.pop-in-loop-pass.new.self.items (c.in-Some.pass ∷ []) in
    let now = ap length errands in
    let P : List Standing = c.loop-pass.seat.me.0.callers in
    let Q : List Standing = c.in-Some.pass.seat.me.0.callers in
    let W : Standing → ℕ = λ x. x.errand.won in
    let L : Standing → ℕ = λ x. x.errand.lost in
    let won_more = ap (sum_by W) errands ∙ sum_by-append W P Q in
    let lost_more = ap (sum_by L) errands ∙ sum_by-append L P Q in
    let won_one = one-sum h c.in-Some.pass (λ e. e.won) mine.0 mine.1 in
    let lost_one = one-sum h c.in-Some.pass (λ e. e.lost) mine.0 mine.1 in
    record {
      among = (
        c.in-Some.pass ∷ i.among.0,
        i.among.1 ∙ (ap (λ (l : List Pass). l ++ i.among.0) c.in-Some.ensures.items ∙ append_assoc c.pop-in-loop-pass.new.self.items (c.in-Some.pass ∷ []) i.among.0),
        subst (λ (v : View). All (IsIn v) (c.in-Some.pass ∷ i.among.0)) (sym (ap (λ (m : Me View). m.0) j.2)) (more-in c.loop-pass.seat.me.0 c.in-Some.pass.seat.me.0 c.in-Some.pass i.among.0 (is_in-itself h c.in-Some.pass mine.0 mine.1) i.among.2),
      );
      table = j.0 ∙ i.table;
      empty = ap (λ (m : Me View). m.1) j.2 ∙ i.empty;
      settled = ap (λ (m : Me View). m.0.lays) j.2 ∙ i.settled;
      home = ap (λ (m : Me View). m.0.lent) j.2 ∙ i.home;
      count = omega (arith, n, m, was, now, one.1, i.count);
      others = front (λ (p : Pass). IsOf h p × IsIdle p.errand × (p.out ≡ 0)) c.pop-in-loop-pass.new.self.items c.in-Some.pass taken;
      idle = subst (λ (l : List Standing). All (λ (x : Standing). IsIdle x.errand) l) (sym errands) (all-idle c.loop-pass.seat.me.0.callers c.in-Some.pass.seat.me.0.callers i.idle one.0);
      won_is = omega (arith, c.saturating_add-won.ensures, c.won.ensures, i.won_is, won_more, won_one);
      lost_is = omega (arith, c.saturating_add-lost.ensures, c.lost.ensures, i.lost_is, lost_more, lost_one);
    }

pub loop-pass-init : goal.loop-pass-init
loop-pass-init g c =
    let h = c.args.self.now in
    let p = c.unwrap-seat.result in
    let items : c.args.passes.items ≡ c.pop.new.self.items ++ p ∷ [] =
    c.pop.ensures.items ∙ ap (λ o. c.pop.new.self.items ++ option_to_list o) c.unwrap-seat.ensures in
    let taken = subst (λ (l : List Pass). All (λ q. IsOf h q × IsIdle q.errand × (q.out ≡ 0)) l) items
    (λ k d within. let e = c.requires.idle.each k d within in (e.0, e.1, c.requires.home k d within)) in
    let mine = last (λ (q : Pass). IsOf h q × IsIdle q.errand × (q.out ≡ 0)) c.pop.new.self.items p taken in
    let one = one-idle h p mine.0 mine.1 in
    let was = ap length items in
    let m = length-append c.pop.new.self.items (p ∷ []) in
    record {
      among = (p ∷ [], items, one-in p.seat.me.0 p (is_in-itself h p mine.0 mine.1));
      table = mine.0.table;
      empty = mine.0.empty;
      settled = mine.0.settled;
      home = nothing-out h p mine.0 mine.2;
      count = omega (arith, m, was, one.1, c.requires.idle.all);
      others = front (λ (q : Pass). IsOf h q × IsIdle q.errand × (q.out ≡ 0)) c.pop.new.self.items p taken;
      idle = one.0;
      won_is = omega (arith, c.won-won.ensures, one-sum h p (λ e. e.won) mine.0 mine.1, c.won-won.type_inv);
      lost_is = omega (arith, c.lost-lost.ensures, one-sum h p (λ e. e.lost) mine.0 mine.1, c.lost-lost.type_inv);
    }
