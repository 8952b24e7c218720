use Rattle.std.proofs.Common.{◌≡◌, Ok, refl, subst, inl, inr}
use Rattle.live_heap.specs.Heaps.{HeapFields}
use Rattle.balloc_c.specs.Hands.{heap_of}
use Rattle.balloc_c.specs.Lending.{GivesAgain}
use Rattle.balloc_c.proofs.Packing.{few-same}
use Rattle.balloc_c.proofs.hand.Hand.alloc_memory.Goals as goal

pub returns-in-Some : goal.returns-in-Some
returns-in-Some c =
    let hand = c.args.self.now in
    let told = c.give_again in
    let number = told.new.id in
    let same : c.heap.result.now ≡ heap_of hand = c.heap.ensures in
    let again = subst
    (λ (h : HeapFields). GivesAgain h hand.cache hand.table c.args.bytes number told.result.memory told.result.words hand.cache told.new.table)
    same (told.ensures.again c.in-Some.ensures.ready.0) in
    (Ok number, told.ensures.code, refl, (inl (number, refl, again), refl, refl, few-same hand.table told.new.table told.ensures.count))

pub returns-in-None : goal.returns-in-None
returns-in-None c =
    let told = c.alloc_new.ensures in
    (told.0, told.1, told.2, (inr (c.in-None.ensures.none refl, told.3.0), told.3.1, told.3.2, told.3.3))
