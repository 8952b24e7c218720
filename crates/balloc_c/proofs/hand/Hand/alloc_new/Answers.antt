use Rattle.std.proofs.Common.{◌≡◌, refl, subst}
use Rattle.live_heap.specs.Heaps.{HeapFields}
use Rattle.balloc_c.specs.Hands.{heap_of}
use Rattle.balloc_c.specs.Lending.{AllocatesNew}
use Rattle.balloc_c.proofs.hand.Hand.alloc_new.Goals as goal

pub returns : goal.returns
returns c =
    let told = c.alloc_new.ensures.answers in
    let hand = c.args.self.now in
    let same : c.heap.result.now ≡ heap_of hand = c.heap.ensures in
    let given = subst
    (λ (h : HeapFields). AllocatesNew h hand.cache hand.table c.args.bytes told.0 c.alloc_new.result.memory c.alloc_new.result.words c.alloc_new.new.cache c.alloc_new.new.table)
    same told.3 in
    (told.0, told.1, told.2, (given, refl, refl, c.alloc_new.ensures.few))
