use Rattle.std.proofs.Common.{◌≡◌, Ok, refl, sym, subst, inl}
use Rattle.live_heap.specs.Heaps.{HeapFields}
use Rattle.balloc_c.specs.Hands.{heap_of}
use Rattle.balloc_c.specs.Lending.{IsBackFor, IsRoomFor, KeepsBack}
use Rattle.balloc_c.proofs.MemoryCalls.{nothing-left, words-back}
use Rattle.balloc_c.proofs.Packing.{few-same}
use Rattle.balloc_c.proofs.hand.Hand.free_out.Goals as goal

pub free_out_here-requires-clause-at : goal.free_out_here-requires-clause-at
free_out_here-requires-clause-at c =
    let hand = c.args.self.now in
    let next = c.in-Some.ensures in
    let given = c.args.back.words in
    let same : c.heap.result.now ≡ heap_of hand = c.heap.ensures in
    let back = words-back (heap_of hand) next.1 given (subst (λ slot. IsBackFor (heap_of hand) slot given) next.2.names c.requires.back) in
    (next.1, next.2, back.0, back.1, subst (λ (h : HeapFields). IsRoomFor h next.1 back.0) (sym same) back.2)

pub returns-in-Some : goal.returns-in-Some
returns-in-Some c =
    let hand = c.args.self.now in
    let r = c.free_out_here in
    let kept = subst (λ left. KeepsBack hand.cache hand.table c.args.number c.args.back.words (Ok tt) left hand.cache r.new.table) (sym r.ensures.words) r.ensures.kept in (
      Ok tt,
      r.ensures.code,
      nothing-left (Ok tt) r.result.words r.ensures.words,
      (inl kept, refl, refl, few-same hand.table r.new.table r.ensures.count),
    )
