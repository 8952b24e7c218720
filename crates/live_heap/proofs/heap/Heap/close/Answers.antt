use Rattle.std.proofs.Common.{slice_index_or, refl, sym, ap, ◌∙◌, subst, arith}
use Rattle.std.specs.List.{list_all}
use Rattle.std.specs.Prelude.{◌==◌}
use Rattle.plain_words.specs.Places.{numbers}
use Rattle.atomic_region.specs.Owned.{RegionId}
use Rattle.atomic_region.specs.declared.shared.Seat.{Seat}
use Rattle.live_heap.specs.placement.Places.{words_at}
use Rattle.heap_geometry.specs.declared.geometry.Geometry.{Geometry}
use Rattle.live_heap.specs.declared.pass.Pass.{Pass}
use Rattle.live_heap.specs.declared.view.View.{View}
use Rattle.live_heap.specs.Endings.{HasAccesses, HasTakenIn, IsAtRest, IsCounted, IsResting, closed_with}
use Rattle.live_heap.proofs.ClosedPieces.{last-marked, last-words}
use Rattle.live_heap.proofs.Ending.{IsLast, last-accesses, last-rests, last-counted, last-taken}
use Rattle.live_heap.proofs.Gathering.{idle-at, one-out}
use Rattle.live_heap.proofs.heap.Heap.close.Goals as goal
use Rattle.live_heap.proofs.heap.Heap.close.Goals.{After-end-room}
use Rattle.live_heap.proofs.heap.Heap.close.Given.{Over}

pub end-room-requires-clause-table : goal.end-room-requires-clause-table
end-room-requires-clause-table g c = c.gather-seat.ensures.table

pub end-room-requires-clause-rests : goal.end-room-requires-clause-rests
end-room-requires-clause-rests g c = record { all = c.gather-seat.ensures.all; home = c.gather-seat.ensures.home; idle = c.gather-seat.ensures.idle }

-- the seat that took all passes in stands for all callers, each in no call, with nothing out
at-rest : (g : Over) (c : After-end-room g) → IsAtRest c.end-room.result.1 c.gather-seat.result.seat.me.0
at-rest g c =
    let e = c.gather-seat.ensures in
    record { all = e.all ∙ sym (ap (λ (h : Geometry). h.callers) c.end-room.ensures.layout); home = e.home; idle = e.idle }

-- the words at the end, and the view of the seat that took all passes in
last : (g : Over) (c : After-end-room g) → IsLast g.R.ShelfRule.allows c.end-room.result.1 (words_at c.end-room.result.1 (numbers c.end-room.result.0.plain.places)) c.gather-seat.result.seat.me.0
last g c =
    let seat = c.gather-seat.result.seat in
    last-words c.end-room.result.1 seat.id seat.me.0 c.end-room.result.0.plain.places (at-rest g c) c.end-room.ensures.last

rests : (g : Over) (c : After-end-room g) → IsResting (closed_with c.end-room.result.1 c.of-last.result.value.region (words_at c.end-room.result.1 (numbers c.end-room.result.0.plain.places)) c.of-last.result.value.me.0)
rests g c =
    let layout = c.end-room.result.1 in
    let seat = c.gather-seat.result.seat in
    subst (λ (x : Seat View). IsResting (closed_with layout x.region (words_at layout (numbers c.end-room.result.0.plain.places)) x.me.0)) (sym c.of-last.ensures)
    (last-rests layout seat.region (words_at layout (numbers c.end-room.result.0.plain.places)) seat.me.0 (last g c) (idle-at seat.me.0.callers c.gather-seat.ensures.idle))

counted : (g : Over) (c : After-end-room g) → IsCounted (closed_with c.end-room.result.1 c.of-last.result.value.region (words_at c.end-room.result.1 (numbers c.end-room.result.0.plain.places)) c.of-last.result.value.me.0) c.gather-seat.result.won c.gather-seat.result.lost
counted g c =
    let layout = c.end-room.result.1 in
    let seat = c.gather-seat.result.seat in
    subst (λ (x : Seat View). IsCounted (closed_with layout x.region (words_at layout (numbers c.end-room.result.0.plain.places)) x.me.0) c.gather-seat.result.won c.gather-seat.result.lost) (sym c.of-last.ensures)
    (last-counted layout seat.region (words_at layout (numbers c.end-room.result.0.plain.places)) seat.me.0 (last g c) c.gather-seat.result.won c.gather-seat.result.lost c.gather-seat.ensures.won_is c.gather-seat.ensures.lost_is)

pub invariant_of-result : goal.invariant_of-result
invariant_of-result g c =
    let seat = c.gather-seat.result.seat in
    record {
      lies = c.end-room.ensures.start ∙ (ap (λ (r : RegionId). r.at) (sym c.gather-seat.ensures.table) ∙ ap (λ (x : Seat View). x.region.at) (sym c.of-last.ensures));
      marked = last-marked c.end-room.result.1 seat.id seat.me.0 c.end-room.result.0.plain.places (at-rest g c) c.end-room.ensures.last;
      rests = rests g c;
      counts = counted g c;
    }

pub returns-clause-rests : goal.returns-clause-rests
returns-clause-rests g c = rests g c

pub returns-clause-accesses : goal.returns-clause-accesses
returns-clause-accesses g c =
    let layout = c.end-room.result.1 in
    let seat = c.gather-seat.result.seat in
    subst (λ (x : Seat View). HasAccesses (closed_with layout x.region (words_at layout (numbers c.end-room.result.0.plain.places)) x.me.0) c.args.passes.items)
    (sym c.of-last.ensures)
    (last-accesses layout seat.region (words_at layout (numbers c.end-room.result.0.plain.places)) seat.me.0 (last g c) (idle-at seat.me.0.callers c.gather-seat.ensures.idle)
    c.args.passes.items c.gather-seat.ensures.each)

pub returns-clause-closed : goal.returns-clause-closed
returns-clause-closed g c =
    let layout = c.end-room.result.1 in
    let seat = c.gather-seat.result.seat in
    record {
      heap = c.end-room.ensures.layout;
      table = ap (λ (x : Seat View). x.region) c.of-last.ensures ∙ c.gather-seat.ensures.table;
      each = λ k d l.
          subst (λ (x : Seat View). HasTakenIn (closed_with layout x.region (words_at layout (numbers c.end-room.result.0.plain.places)) x.me.0) (slice_index_or c.args.passes.items k d))
          (sym c.of-last.ensures)
          (last-taken layout seat.region (words_at layout (numbers c.end-room.result.0.plain.places)) seat.me.0 (last g c) (slice_index_or c.args.passes.items k d) (c.gather-seat.ensures.each k d l));
    }

pub returns-then-not-are_home-clause-always : goal.returns-then-not-are_home-clause-always
returns-then-not-are_home-clause-always g c home =
    let some = one-out c.args.passes.items (ap (list_all (λ (p : Pass). p.out == 0)) (sym c.deref.ensures.value) ∙ sym c.are_home.ensures ∙ c.if-not-are_home.true) in
    let none = home some.0 some.1 some.2 in
    let same = ap (λ (p : Pass). p.out) some.3 in
    omega (arith, some.4, none, same)

pub returns-then-not-are_home-clause-kept : goal.returns-then-not-are_home-clause-kept
returns-then-not-are_home-clause-kept g c =
    (refl, refl, one-out c.args.passes.items (ap (list_all (λ (p : Pass). p.out == 0)) (sym c.deref.ensures.value) ∙ sym c.are_home.ensures ∙ c.if-not-are_home.true))
