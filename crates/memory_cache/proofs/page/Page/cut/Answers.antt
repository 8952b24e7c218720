use Rattle.std.proofs.Common.{◌≡◌, ◌≤◌, ◌<◌, ◌+◌, ◌-◌, ◌*◌, ◌/◌, ◌∙◌, ap, arith, length, refl, subst, sym, ℕ}
use Rattle.std.proofs.lemmas.List.{length_push}
use Rattle.heap_geometry.specs.Need.{usable_words}
use Rattle.plain_words.specs.declared.plain.PlainWords.{PlainWords}
use Rattle.memory_cache.specs.declared.page.Slot.{Slot}
use Rattle.memory_cache.specs.declared.page.Slot.TheVariants.{Home}
use Rattle.memory_cache.specs.Pages.{AreHere, IsSlot}
use Rattle.memory_cache.proofs.ChainLemmas.{chain-all}
use Rattle.memory_cache.proofs.PageLemmas.{each-more, first-here, home-in, homes-more, one-more, others-here, pieces-few, slots-more, within-words}
use Rattle.memory_cache.proofs.page.Page.cut.Goals as goal

pub overflow_cast-number-end : goal.overflow_cast-number-end
overflow_cast-number-end g c =
    let m = c.args.memory in
    let few : usable_words m.block.need / c.args.size < 2048 = pieces-few c.args.size m.block.place m.block.need c.requires.1 in
    let same : c.usable_words.result / c.args.size ≡ usable_words m.block.need / c.args.size = ap (λ n. n / c.args.size) c.usable_words.ensures in
    omega arith

pub loop-number-preserved : goal.loop-number-preserved
loop-number-preserved g c =
    let size = c.args.size in
    let need = c.need-need.result in
    let number = c.loop-number.number in
    let i = c.loop-number.invariant in
    let first = c.place-place.result + number * size + 1 in
    let usable : c.usable_words.result ≡ usable_words need = c.usable_words.ensures ∙ ap usable_words (sym c.need-need.ensures) in
    let below : number < usable_words need / size = subst (λ n. number < n / size) usable c.loop-number-test.true in
    let fits : number * size + size ≤ usable_words need = within-words number size (usable_words need) below in
    let left = usable_words need - number * size in
    let piece = c.split-piece.result.0 in
    let others = c.split-piece.result.1 in
    let x = c.split-piece.ensures in
    let here : AreHere g.h first size piece =
    first-here g.h first left size c.loop-number.rest piece (omega arith) i.rest x.first.0 x.first.1 x.first.2 in
    let slot : Slot = Home piece (number + 1) in
    let items = c.push_reserved.ensures.items in
    let slots = c.loop-number.slots.items in
    let more = c.push_reserved.new.self.items in
    record {
      long = ap length items ∙ length_push slots slot ∙ ap (λ n. n + 1) i.long;
      room = subst (λ n. c.usable_words.result / size ≤ n) (sym c.push_reserved.ensures.capacity) i.room;
      slots = slots-more slots more slot number i.long items (λ k s. IsSlot g.h (c.place-place.result + k * size + 1) size s) i.slots here;
      home = homes-more slots more slot number i.long items i.home (home-in piece (number + 1));
      next =
          each-more slots more slot number i.long items (λ k s. (words : PlainWords) × (s ≡ Home words (k + 1))) i.next (piece, refl);
      rest =
          others-here g.h first left size (c.place-place.result + (number + 1) * size + 1) (usable_words need - (number + 1) * size) c.loop-number.rest others
          (omega (arith, one-more number size)) (omega (arith, one-more number size)) i.rest x.others.0 x.others.1 x.others.2;
    }

pub invariant_of-result-clause-few : goal.invariant_of-result-clause-few
invariant_of-result-clause-few g c =
    let m = c.args.memory in
    let i = c.loop-number.invariant in
    let few : usable_words m.block.need / c.args.size < 2048 = pieces-few c.args.size m.block.place m.block.need c.requires.1 in
    let same : c.usable_words.result / c.args.size ≡ usable_words m.block.need / c.args.size = ap (λ n. n / c.args.size) c.usable_words.ensures in
    omega (arith, few, same, i.long, c.loop-number.auto.number-end)

pub invariant_of-result-clause-chained : goal.invariant_of-result-clause-chained
invariant_of-result-clause-chained g c =
    let i = c.loop-number.invariant in
    let slots = c.loop-number.slots.items in
    let count : ℕ = c.usable_words.result / c.args.size in
    let all : length slots ≡ count = omega (arith, i.long, c.loop-number.auto.number-end, c.loop-number-test.false) in
    chain-all count slots all (λ n within. i.next n (omega (arith, within, all, i.long)))
