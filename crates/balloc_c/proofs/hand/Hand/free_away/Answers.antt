use Rattle.std.proofs.Common.{◌≡◌, refl, subst}
use Rattle.live_heap.specs.Heaps.{HeapFields}
use Rattle.balloc_c.specs.Hands.{heap_of}
use Rattle.balloc_c.specs.Lending.{FreesBack}
use Rattle.balloc_c.proofs.hand.Hand.free_away.Goals as goal

pub returns : goal.returns
returns c =
    let told = c.free_back.ensures.answers in
    let hand = c.args.self.now in
    let same : c.heap.result.now ≡ heap_of hand = c.heap.ensures in
    let freed = subst
    (λ (h : HeapFields). FreesBack h hand.cache hand.table c.args.number c.args.back.words told.0 c.free_back.result.words c.free_back.new.cache c.free_back.new.table)
    same told.3 in
    (told.0, told.1, told.2, (freed, refl, refl, c.free_back.ensures.few))
