use Rattle.std.proofs.Common.{◌≡◌, ◌<◌, List, None, sym, ap, ◌∙◌, subst, arith, rules}
use Rattle.atomic_table.specs.Table.{turned}
use Rattle.live_heap.specs.declared.pass.Pass.{Pass}
use Rattle.shared_heap.specs.Places.{Holder}
use Rattle.shared_heap.proofs.EndLemmas.{Going, as-many, goes-on, gone, on-top, starts}
use Rattle.shared_heap.proofs.shared.take_out.Goals as goal

pub loop-place-init : goal.loop-place-init
loop-place-init c =
    let h = c.args.places.now.shared.key in
    record {
      table = c.requires.table;
      room = c.in_ok-passes.ensures.exact;
      going = λ givens is many shares.
          subst (λ (ps : List Pass). Going h givens 0 c.args.seat.me.1 ps None) (sym c.in_ok-passes.ensures.items)
          (starts h givens c.args.seat.me.1 is shares);
    }

pub exchange-given-requires : goal.exchange-given-requires
exchange-given-requires c =
    let h = c.args.places.now.shared.key in
    let i = c.loop-place.invariant in
    let all = c.requires.taken in
    let low : c.loop-place.place < c.args.callers = search rules in (
      i.table,
      on-top h all.0 c.loop-place.place c.loop-place.seat.me.1 c.loop-place.passes.items c.loop-place.heap (i.going all.0 all.1 all.2 all.3)
          (omega (arith, low, all.2)),
    )

pub take_in-heap-requires : goal.take_in-heap-requires
take_in-heap-requires c =
    let h = c.args.places.now.shared.key in
    let i = c.loop-place.invariant in
    let all = c.requires.taken in
    let low : c.loop-place.place < c.args.callers = search rules in
    omega (
      arith,
      low,
      i.room,
      as-many h all.0 c.loop-place.place c.loop-place.seat.me.1 c.loop-place.passes.items c.loop-place.heap (i.going all.0 all.1 all.2 all.3),
    )

pub loop-place-preserved : goal.loop-place-preserved
loop-place-preserved c =
    let h = c.args.places.now.shared.key in
    let i = c.loop-place.invariant in
    let low : c.loop-place.place < c.args.callers = search rules in
    let took = c.take_in-heap in
    record {
      table = c.turn.ensures.0 ∙ (c.exchange-given.ensures.0 ∙ i.table);
      room = took.ensures.room ∙ i.room;
      going = λ givens is many shares.
          goes-on h givens c.loop-place.place c.loop-place.seat.me.1 c.turn.new.self.me.1 c.loop-place.passes.items took.new.passes.items
          c.loop-place.heap took.result c.exchange-given.result (i.going givens is many shares) (omega (arith, low, many))
          c.exchange-given.ensures.2
          (ap (λ (m : Holder). m.1) c.turn.ensures.2 ∙ ap (λ (m : Holder). turned m.1) c.exchange-given.ensures.3) took.ensures.items
          took.ensures.heap;
    }

pub returns : goal.returns
returns c givens is many shares =
    let h = c.args.places.now.shared.key in
    let i = c.loop-place.invariant in
    let all : c.loop-place.place ≡ c.args.callers = search rules in
    gone h givens c.loop-place.place c.loop-place.seat.me.1 c.loop-place.passes.items c.loop-place.heap (i.going givens is many shares)
    (all ∙ sym many)
