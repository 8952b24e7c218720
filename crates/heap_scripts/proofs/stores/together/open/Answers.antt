use Rattle.std.proofs.Common.{◌<◌, List, length, sym, subst, arith}
use Rattle.live_heap.specs.declared.block.Block.{Block}
use Rattle.live_heap.specs.declared.pass.Pass.{Pass}
use Rattle.live_heap.specs.Hands.{IsHand}
use Rattle.typed_store.specs.declared.store.Pending.{Pending}
use Rattle.typed_store.specs.declared.store.Store.{Store}
use Rattle.heap_scripts.specs.stores.Twins.{Waits}
use Rattle.heap_scripts.proofs.stores_lemmas.OpenLemmas.{first-fresh, fresh-hand, ready-waits, second-fresh}
use Rattle.heap_scripts.proofs.stores.together.open.Goals as goal

pub returns : goal.returns
returns c =
    let h = c.in_ok-heap.heap in
    let passes = c.in_ok-heap.passes.items in
    let rest = c.remove-first.new.self.items in
    let opened = c.in_ok-heap.ensures.passes in
    let many : 0 < length passes = omega (arith, c.if-len-lt2.false, c.len.ensures) in
    let more : 0 < length rest = omega (arith, c.if-len-lt2.false, c.len.ensures, c.remove-first.ensures.len) in
    let first = first-fresh h 0 passes c.remove-first.result opened.0 many c.remove-first.ensures.value in
    let second = second-fresh h passes rest c.remove-second.result opened.0 c.remove-first.ensures.items more c.remove-second.ensures.value in
    let words = c.new.result.words.items in
    let twin : Waits h c.open-2.result Rattle.typed_store.specs.declared.store.Pending.TheVariants.Nothing words =
    ready-waits h c.open-2.result words (c.open-2.ensures.ready h first.of) in
    let waits : Waits h c.open-2.result c.new.result.waits words = subst (λ (p : Pending). Waits h c.open-2.result p words) (sym c.new.ensures.waits) twin in
    let hand = fresh-hand h c.remove-second.result second in (
      subst (λ (s : Store). Waits h s c.new.result.waits words) (sym c.new.ensures.store) waits,
      subst (λ (p : Pass). IsHand h p c.new-2.result.blocks.items) (sym c.new-2.ensures.pass)
          (subst (λ (l : List Block). IsHand h c.remove-second.result l) (sym c.new-2.ensures.blocks) hand),
    )
