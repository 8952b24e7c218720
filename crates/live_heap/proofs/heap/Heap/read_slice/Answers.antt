use Rattle.std.proofs.Common.{ℕ, ◌≡◌, ◌+◌, List, [], length, take, drop, refl, sym, ap, ◌∙◌, subst, arith}
use Rattle.plain_words.specs.Places.{numbers}
use Rattle.sound_laws.specs.events.Made.{LeadsBy, found_from}
use Rattle.live_heap.specs.Passes.{accesses, view}
use Rattle.live_heap.specs.Words.{CallsOnWord}
use Rattle.live_heap.proofs.LendsOut.{numbers-at, numbers-long}
use Rattle.live_heap.proofs.Lifting.{founds-long, lifts, on-founds, part-is, part-laid, reads-from}
use Rattle.live_heap.proofs.Taking.{long-numbers}
use Rattle.live_heap.proofs.WordCalls.{has-made}
use Rattle.live_heap.proofs.heap.Heap.read_slice.Goals as goal

pub slice-requires : goal.slice-requires
slice-requires g c =
    let b = c.args.block.now in
    let w = c.lift_words-words.ensures.words in (
      c.start.ensures ∙ sym w.at,
      omega (arith, w.first),
      part-laid c.args.self.now b.place b.need c.lift_words-words.result c.args.first (b.place + 1 + c.args.first) (length c.args.into.now) w refl (omega (arith, c.requires.words)),
    )

pub lay_words-requires-clause-lifted : goal.lay_words-requires-clause-lifted
lay_words-requires-clause-lifted g c =
    let p = c.args.pass.now in
    let b = c.args.block.now in
    let words = c.lift_words-words.result in
    let x = c.lift_words-words.ensures in
    let ns = numbers words.places in
    let many = long-numbers x.words.laid.0 words.places x.words.laid.1 ∙ x.words.long in
    let count = length c.args.into.now in
    let first = c.args.first in
    let few : length (take count (drop first ns)) ≡ count = numbers-long ns first count (omega (arith, many, c.requires.words)) in
    record {
      before = p;
      lifted = lifts c.args.self.now p c.lift_words-words.new.pass b.place b.need words c.requires.of c.requires.idle c.requires.owned x.words x.lifted;
      leads =
          reads-from b.place b.need [] (view p).lent (view p).lent ns first (take count (drop first ns)) (omega (arith, few, c.requires.words))
          (λ k below. sym (numbers-at ns first count k (omega (arith, below, few))));
    }

pub returns : goal.returns
returns g c =
    let h = c.args.self.now in
    let p = c.args.pass.now in
    let b = c.args.block.now in
    let words = c.lift_words-words.result in
    let x = c.lift_words-words.ensures in
    let ns = numbers words.places in
    let q = c.lay_words.new.pass in
    let count = length c.args.into.now in
    let found = c.copy_from_slice.new.self in
    let first = c.args.first in
    let is : take count (drop first ns) ≡ found =
    part-is h b.place b.need words first (b.place + 1 + first) count c.slice.result.now x.words refl c.slice.ensures ∙ sym c.copy_from_slice.ensures.after in
    let l = lifts h p c.lift_words-words.new.pass b.place b.need words c.requires.of c.requires.idle c.requires.owned x.words x.lifted in
    let leads : LeadsBy (CallsOnWord h) p (found_from b.place b.need first found) q =
    subst (λ (l : List ℕ). LeadsBy (CallsOnWord h) p (found_from b.place b.need first l) q) is (c.lay_words.ensures p l) in
    let has = has-made h p q (found_from b.place b.need first found) c.requires.of c.requires.idle (on-founds b.place b.need first found) leads in
    let long = c.copy_from_slice.ensures.len in
    record {
      of = has.of;
      idle = has.idle;
      keeps = λ other. has.keeps other.place other.need;
      lent = has.lent;
      long = long;
      found = leads;
      accesses = has.accesses ∙ ap (λ n. n + accesses p) (founds-long b.place b.need first found ∙ long);
    }
