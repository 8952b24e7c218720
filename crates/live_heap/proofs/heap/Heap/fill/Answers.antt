use Rattle.std.proofs.Common.{ℕ, ◌≡◌, List, [], length, sym, ap, ◌∙◌, subst}
use Rattle.heap_geometry.specs.Need.{usable_words}
use Rattle.plain_words.specs.Lends.{with_words}
use Rattle.plain_words.specs.Places.{numbers}
use Rattle.sound_laws.specs.events.Made.{LeadsBy, wrote}
use Rattle.live_heap.specs.Lending.{LeadTo, numbers_from}
use Rattle.live_heap.specs.Memory.{writes_from}
use Rattle.live_heap.specs.Passes.{view}
use Rattle.live_heap.specs.Words.{CallsOnWord}
use Rattle.live_heap.proofs.Lifting.{lifts, slice-long}
use Rattle.live_heap.proofs.Memories.{refilled-numbers, refilled-words}
use Rattle.live_heap.proofs.Taking.{long-numbers, writes-all}
use Rattle.live_heap.proofs.WordCalls.{counted-long, counted-small, has-filled, wrote-counted}
use Rattle.live_heap.proofs.heap.Heap.fill.Goals as goal

pub lay_words-requires-clause-words : goal.lay_words-requires-clause-words
lay_words-requires-clause-words g c =
    let b = c.args.block.now in
    let words = c.lift_words-words.result in
    let w = c.lift_words-words.ensures.words in
    let ws = c.count_from.new.words in
    let are : ws ≡ numbers_from c.args.from (usable_words b.need) = c.count_from.ensures ∙ ap (numbers_from c.args.from) (slice-long words c.slice_mut.result.now c.slice_mut.ensures.value ∙ w.long) in
    refilled-words c.args.self.now b.place b.need words ws w (ap length are ∙ counted-long c.args.from (usable_words b.need) ∙ sym w.long)

pub lay_words-requires-clause-lifted : goal.lay_words-requires-clause-lifted
lay_words-requires-clause-lifted g c =
    let h = c.args.self.now in
    let p = c.args.pass.now in
    let b = c.args.block.now in
    let count = usable_words b.need in
    let words = c.lift_words-words.result in
    let x = c.lift_words-words.ensures in
    let ws = c.count_from.new.words in
    let are : ws ≡ numbers_from c.args.from count = c.count_from.ensures ∙ ap (numbers_from c.args.from) (slice-long words c.slice_mut.result.now c.slice_mut.ensures.value ∙ x.words.long) in
    let same : length ws ≡ length words.places = ap length are ∙ counted-long c.args.from count ∙ sym x.words.long in
    let now : numbers (with_words words ws).places ≡ numbers_from c.args.from count = refilled-numbers words ws same ∙ are in
    let old : length (numbers words.places) ≡ count = long-numbers x.words.laid.0 words.places x.words.laid.1 ∙ x.words.long in
    let leads =
    writes-all b.place b.need [] (view p).lent (view p).lent (numbers words.places) (numbers_from c.args.from count) old (counted-long c.args.from count)
    (counted-small c.args.from count) in
    record {
      before = p;
      lifted = lifts h p c.lift_words-words.new.pass b.place b.need words c.requires.of c.requires.idle c.requires.owned x.words x.lifted;
      leads =
          subst (λ (ns : List ℕ). LeadTo b.place b.need [] (view p).lent (view p).lent (numbers words.places) (writes_from b.place b.need 0 ns) ns) (sym now)
          leads;
    }

pub returns : goal.returns
returns g c =
    let h = c.args.self.now in
    let p = c.args.pass.now in
    let b = c.args.block.now in
    let count = usable_words b.need in
    let words = c.lift_words-words.result in
    let x = c.lift_words-words.ensures in
    let ws = c.count_from.new.words in
    let q = c.lay_words.new.pass in
    let are : ws ≡ numbers_from c.args.from count = c.count_from.ensures ∙ ap (numbers_from c.args.from) (slice-long words c.slice_mut.result.now c.slice_mut.ensures.value ∙ x.words.long) in
    let same : length ws ≡ length words.places = ap length are ∙ counted-long c.args.from count ∙ sym x.words.long in
    let now : numbers (with_words words ws).places ≡ numbers_from c.args.from count = refilled-numbers words ws same ∙ are in
    let l = lifts h p c.lift_words-words.new.pass b.place b.need words c.requires.of c.requires.idle c.requires.owned x.words x.lifted in
    let leads = subst (λ (ns : List ℕ). LeadsBy (CallsOnWord h) p (writes_from b.place b.need 0 ns) q) now (c.lay_words.ensures p l) in
    let wrote_all : LeadsBy (CallsOnWord h) p (wrote b.place b.need c.args.from count) q =
    subst (λ ms. LeadsBy (CallsOnWord h) p ms q) (wrote-counted b.place b.need c.args.from count) leads in
    let filled = has-filled h p q b.place b.need c.args.from count c.requires.of c.requires.idle wrote_all in
    record { of = filled.of; idle = filled.idle; keeps = λ other. filled.keeps other.place other.need; lent = filled.lent; wrote = wrote_all; accesses = filled.accesses }
