use Rattle.std.proofs.Common.{ℕ, ◌≡◌, ◌≤◌, ◌+◌, List, [], length, take, drop, sym, ap, ◌∙◌, subst, arith}
use Rattle.plain_words.specs.Lends.{with_words}
use Rattle.plain_words.specs.Places.{numbers}
use Rattle.sound_laws.specs.events.Made.{LeadsBy}
use Rattle.live_heap.specs.Lending.{LeadTo}
use Rattle.live_heap.specs.Memory.{writes_from}
use Rattle.live_heap.specs.Passes.{accesses, view}
use Rattle.live_heap.specs.Words.{CallsOnWord}
use Rattle.live_heap.proofs.Lifting.{lifts}
use Rattle.live_heap.proofs.Memories.{refilled-numbers, refilled-words}
use Rattle.live_heap.proofs.Slicing.{over-long, over-part, written_over}
use Rattle.live_heap.proofs.Taking.{long-numbers, numbers-laids, writes-part}
use Rattle.live_heap.proofs.WordCalls.{has-made, on-writes, writes-long}
use Rattle.live_heap.proofs.heap.Heap.write_slice.Goals as goal

pub write_over-requires : goal.write_over-requires
write_over-requires g c =
    let w = c.lift_words-words.ensures.words in
    let slice = c.slice_mut.result.now in
    let many : numbers c.lift_words-words.result.places ≡ slice = ap numbers c.slice_mut.ensures.value ∙ numbers-laids slice in
    omega (arith, c.requires.words, ap length many, long-numbers w.laid.0 c.lift_words-words.result.places w.laid.1, w.long)

pub lay_words-requires-clause-words : goal.lay_words-requires-clause-words
lay_words-requires-clause-words g c =
    let b = c.args.block.now in
    let words = c.lift_words-words.result in
    let w = c.lift_words-words.ensures.words in
    let from = c.args.from.now in
    let slice = c.slice_mut.result.now in
    let is : numbers words.places ≡ slice = ap numbers c.slice_mut.ensures.value ∙ numbers-laids slice in
    let many = long-numbers w.laid.0 words.places w.laid.1 in
    let ws = c.write_over.new.words in
    let long : length ws ≡ length words.places =
    ap length c.write_over.ensures ∙ over-long slice c.args.first from (omega (arith, c.requires.words, ap length is, many, w.long)) ∙ sym (ap length is) ∙ many in
    refilled-words c.args.self.now b.place b.need words ws w long

pub lay_words-requires-clause-lifted : goal.lay_words-requires-clause-lifted
lay_words-requires-clause-lifted g c =
    let h = c.args.self.now in
    let p = c.args.pass.now in
    let b = c.args.block.now in
    let words = c.lift_words-words.result in
    let x = c.lift_words-words.ensures in
    let from = c.args.from.now in
    let slice = c.slice_mut.result.now in
    let ns = numbers words.places in
    let is : ns ≡ slice = ap numbers c.slice_mut.ensures.value ∙ numbers-laids slice in
    let many = long-numbers x.words.laid.0 words.places x.words.laid.1 in
    let first = c.args.first in
    let few : first + length from ≤ length ns = omega (arith, c.requires.words, many, x.words.long) in
    let ws = c.write_over.new.words in
    let begun : ws ≡ written_over ns first from = c.write_over.ensures ∙ ap (λ (l : List ℕ). written_over l first from) (sym is) in
    let long : length ws ≡ length words.places = ap length begun ∙ over-long ns first from few ∙ many in
    let now : numbers (with_words words ws).places ≡ written_over ns first from = refilled-numbers words ws long ∙ begun in
    let told : take (length from) (drop first (numbers (with_words words ws).places)) ≡ from = ap (λ (l : List ℕ). take (length from) (drop first l)) now ∙ over-part ns first from few in
    let leads =
    writes-part b.place b.need [] (view p).lent (view p).lent ns first from few (many ∙ x.words.long) (λ k has. c.are_small.ensures k has) in
    let one = subst (λ (ms : List ℕ). LeadTo b.place b.need [] (view p).lent (view p).lent ns (writes_from b.place b.need first ms) (written_over ns first from)) (sym told) leads in
    record {
      before = p;
      lifted = lifts h p c.lift_words-words.new.pass b.place b.need words c.requires.of c.requires.idle c.requires.owned x.words x.lifted;
      leads =
          subst (λ (l : List ℕ). LeadTo b.place b.need [] (view p).lent (view p).lent ns (writes_from b.place b.need first (take (length from) (drop first (numbers (with_words words ws).places)))) l)
          (sym now) one;
    }

pub returns : goal.returns
returns g c =
    let h = c.args.self.now in
    let p = c.args.pass.now in
    let b = c.args.block.now in
    let words = c.lift_words-words.result in
    let x = c.lift_words-words.ensures in
    let from = c.args.from.now in
    let slice = c.slice_mut.result.now in
    let ns = numbers words.places in
    let q = c.lay_words.new.pass in
    let is : ns ≡ slice = ap numbers c.slice_mut.ensures.value ∙ numbers-laids slice in
    let many = long-numbers x.words.laid.0 words.places x.words.laid.1 in
    let first = c.args.first in
    let few : first + length from ≤ length ns = omega (arith, c.requires.words, many, x.words.long) in
    let ws = c.write_over.new.words in
    let begun : ws ≡ written_over ns first from = c.write_over.ensures ∙ ap (λ (l : List ℕ). written_over l first from) (sym is) in
    let long : length ws ≡ length words.places = ap length begun ∙ over-long ns first from few ∙ many in
    let now : numbers (with_words words ws).places ≡ written_over ns first from = refilled-numbers words ws long ∙ begun in
    let told : take (length from) (drop first (numbers (with_words words ws).places)) ≡ from = ap (λ (l : List ℕ). take (length from) (drop first l)) now ∙ over-part ns first from few in
    let l = lifts h p c.lift_words-words.new.pass b.place b.need words c.requires.of c.requires.idle c.requires.owned x.words x.lifted in
    let leads : LeadsBy (CallsOnWord h) p (writes_from b.place b.need first from) q =
    subst (λ (l : List ℕ). LeadsBy (CallsOnWord h) p (writes_from b.place b.need first l) q) told (c.lay_words.ensures p l) in
    let has = has-made h p q (writes_from b.place b.need first from) c.requires.of c.requires.idle (on-writes b.place b.need first from) leads in
    record {
      of = has.of;
      idle = has.idle;
      keeps = λ other. has.keeps other.place other.need;
      lent = has.lent;
      wrote = leads;
      accesses = has.accesses ∙ ap (λ n. n + accesses p) (writes-long b.place b.need first from);
    }
