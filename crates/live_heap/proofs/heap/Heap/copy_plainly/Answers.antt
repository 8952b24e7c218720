use Rattle.std.proofs.Common.{◌≡◌, List, ◌∷◌, length, sym, ap, ◌∙◌, subst}
use Rattle.heap_geometry.specs.Need.{usable_words}
use Rattle.plain_words.specs.Places.{numbers}
use Rattle.sound_laws.specs.events.Made.{Copies}
use Rattle.live_heap.specs.declared.block.Block.{Block}
use Rattle.live_heap.specs.declared.pass.Pass.{Pass}
use Rattle.live_heap.specs.declared.view.Lent.{Lent}
use Rattle.live_heap.specs.Lending.{copy_of, lent_block}
use Rattle.live_heap.specs.Memory.{before_taking}
use Rattle.live_heap.specs.Passes.{view}
use Rattle.live_heap.specs.Words.{CallsOnWord}
use Rattle.live_heap.proofs.Copying.{copy-long}
use Rattle.live_heap.proofs.Memories.{memory-now, numbers-now}
use Rattle.live_heap.proofs.Taking.{numbers-laids}
use Rattle.live_heap.proofs.heap.Heap.copy_plainly.Goals as goal

pub take_out-to-requires-clause-owned : goal.take_out-to-requires-clause-owned
take_out-to-requires-clause-owned g c = c.take_out-from.ensures.keeps c.args.to c.requires.owned_too (λ same. c.requires.apart (sym same))

pub bring_copy-requires-clause-memory : goal.bring_copy-requires-clause-memory
bring_copy-requires-clause-memory g c =
    let h = c.args.self.now in
    let m = c.take_out-to.result in
    let ws = c.copy_and_clear.new.to in
    let long : length ws ≡ length m.words.places =
    ap length c.copy_and_clear.ensures ∙ copy-long c.words.result.now (length c.words_mut.result.now) ∙ c.words_mut.ensures.long ∙ sym c.take_out-to.ensures.memory.long in
    (c.take_out-from.ensures.memory, memory-now h m ws c.take_out-to.ensures.memory long)

pub bring_copy-requires-clause-taken : goal.bring_copy-requires-clause-taken
bring_copy-requires-clause-taken g c =
    let m = c.take_out-to.result in
    let last = c.take_out-to.ensures.last in
    let first = c.take_out-from.ensures.last in (
      numbers m.words.places,
      (view c.args.pass.now).lent,
      last ∙ ap (λ (l : List Lent). lent_block m.block.place m.block.need (numbers m.words.places) ∷ l) first,
    )

pub bring_copy-requires-clause-copied : goal.bring_copy-requires-clause-copied
bring_copy-requires-clause-copied g c =
    let m = c.take_out-to.result in
    let ws = c.copy_and_clear.new.to in
    let from = c.words.result.now in
    let count = usable_words m.block.need in
    let long : length ws ≡ length m.words.places =
    ap length c.copy_and_clear.ensures ∙ copy-long from (length c.words_mut.result.now) ∙ c.words_mut.ensures.long ∙ sym c.take_out-to.ensures.memory.long in
    let source : numbers c.take_out-from.result.words.places ≡ from = ap numbers c.words.ensures.value ∙ numbers-laids from in
    numbers-now m ws long ∙ c.copy_and_clear.ensures ∙ ap (copy_of from) c.words_mut.ensures.long ∙ ap (λ l. copy_of l count) (sym source)

pub returns : goal.returns
returns g c =
    let h = c.args.self.now in
    let from = c.args.from in
    let to = c.args.to in
    let first = c.take_out-from in
    let last = c.take_out-to in
    let C : Pass → Block → Block → Pass → Type 0 = λ p a b q. Copies (CallsOnWord h) p a.place a.need b.place b.need q in
    let none = before_taking (before_taking last.new.pass last.result.block.place) first.result.block.place in
    let made : C none first.result.block last.result.block (before_taking c.bring_copy.new.pass first.result.block.place) = c.bring_copy.ensures.copied in
    let home : C none first.result.block last.result.block c.put_back.new.pass = subst (C none first.result.block last.result.block) (sym c.put_back.ensures.same) made in
    let begins : none ≡ c.args.pass.now =
    ap (λ (b : Block). before_taking (before_taking last.new.pass b.place) first.result.block.place) last.ensures.block
    ∙ ap (λ (p : Pass). before_taking p first.result.block.place) last.ensures.before
    ∙ ap (λ (b : Block). before_taking first.new.pass b.place) first.ensures.block
    ∙ first.ensures.before in
    subst (λ (b : Block). C c.args.pass.now from b c.put_back.new.pass) last.ensures.block
    (subst (λ (a : Block). C c.args.pass.now a last.result.block c.put_back.new.pass) first.ensures.block
    (subst (λ (p : Pass). C p first.result.block last.result.block c.put_back.new.pass) begins home))
