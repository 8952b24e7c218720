use Rattle.std.proofs.Common.{◌≡◌, arith, ap, ◌∙◌, subst}
use Rattle.errand_steps.specs.Openings.{opening}
use Rattle.heap_geometry.specs.declared.geometry.Geometry.{Geometry}
use Rattle.plain_words.specs.Places.{numbers}
use Rattle.word_table.specs.Counts.{descriptor_count}
use Rattle.word_table.specs.declared.name.WordName.TheVariants.{Next, FrameNext}
use Rattle.live_heap.specs.Linked.{AreLinked}
use Rattle.live_heap.proofs.FirstRoomLemmas.{blank-linked, frame_next-own, heads-own, next-own}
use Rattle.live_heap.proofs.Linked.{frame-linked, is-opened, next-linked}
use Rattle.live_heap.proofs.opened.first_room.Goals as goal

pub loop-desc-init : goal.loop-desc-init
loop-desc-init c = (c.in_ok-room.ensures.behind, blank-linked c.args.layout.now c.in_ok-room.room.plain.places c.in_ok-room.ensures)

pub write-requires-clause-own : goal.write-requires-clause-own
write-requires-clause-own c =
    let order = ap descriptor_count c.layout-order.ensures in
    (omega (arith, c.loop-desc.auto.desc-end, c.loop-desc-test.true, c.descriptors-desc-end.ensures.value, order), next-own c.args.layout.now c.loop-desc.desc)

pub loop-desc-preserved : goal.loop-desc-preserved
loop-desc-preserved c =
    let g = c.args.layout.now in
    let desc = c.loop-desc.desc in
    let is : c.opening.result ≡ opening g (Next desc) = c.opening.ensures ∙ ap (λ h. opening h (Next desc)) c.layout-order.ensures in (
      c.write.ensures.0,
      next-linked g (numbers c.loop-desc.room.plain.places) (numbers c.write.new.room.plain.places) desc c.opening.result c.loop-desc.invariant.1 is c.write.ensures.1,
    )

pub write-requires-in-loop-frame-clause-own : goal.write-requires-in-loop-frame-clause-own
write-requires-in-loop-frame-clause-own c =
    let frames = ap (λ (h : Geometry). h.frames) c.geometry-frame-end.ensures.value in
    (omega (arith, c.loop-frame.auto.frame-end, c.loop-frame-test.true, frames), frame_next-own c.args.layout.now c.loop-frame.frame)

pub loop-frame-preserved : goal.loop-frame-preserved
loop-frame-preserved c =
    let g = c.args.layout.now in
    let frame = c.loop-frame.frame in
    let is : c.opening-in-loop-frame.result ≡ opening g (FrameNext frame) =
    c.opening-in-loop-frame.ensures ∙ ap (λ h. opening h (FrameNext frame)) c.layout-order.ensures in (
      c.write-in-loop-frame.ensures.0,
      frame-linked g (numbers c.loop-frame.room.plain.places) (numbers c.write-in-loop-frame.new.room.plain.places) (descriptor_count g) frame
          c.opening-in-loop-frame.result c.loop-frame.invariant.1 is c.write-in-loop-frame.ensures.1,
    )

pub write-requires-2-clause-own : goal.write-requires-2-clause-own
write-requires-2-clause-own c = (tt, (heads-own c.args.layout.now).0)

pub write-requires-3-clause-own : goal.write-requires-3-clause-own
write-requires-3-clause-own c = (tt, (heads-own c.args.layout.now).1)

pub returns : goal.returns
returns c =
    let g = c.args.layout.now in
    let frames = ap (λ (h : Geometry). h.frames) c.geometry-frame-end.ensures.value in
    let all : c.loop-frame.frame ≡ g.frames = omega (arith, frames, c.loop-frame.auto.frame-end, c.loop-frame-test.false) in
    let linked = subst (AreLinked g (numbers c.loop-frame.room.plain.places) (descriptor_count g)) all c.loop-frame.invariant.1 in
    record {
      behind = c.write-3.ensures.0;
      words = is-opened g (numbers c.loop-frame.room.plain.places) (numbers c.write-2.new.room.plain.places) (numbers c.write-3.new.room.plain.places) linked c.write-2.ensures.1 c.write-3.ensures.1;
    }
