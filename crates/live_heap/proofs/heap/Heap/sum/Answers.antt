use Rattle.std.proofs.Common.{ℕ, ◌≡◌, ◌+◌, ◌%◌, ◌^◌, List, [], refl, sym, ap, ◌∙◌, arith}
use Rattle.std.specs.Prelude.{slice_index, sum}
use Rattle.plain_words.specs.Places.{numbers}
use Rattle.sound_laws.specs.events.Made.{found_from}
use Rattle.live_heap.specs.Passes.{accesses, view}
use Rattle.live_heap.proofs.Lifting.{founds-long, lifts, on-founds, reads-from, slice-is, slice-laid}
use Rattle.live_heap.proofs.Taking.{long-numbers}
use Rattle.live_heap.proofs.WordCalls.{has-made}
use Rattle.live_heap.proofs.heap.Heap.sum.Goals as goal

pub slice-requires : goal.slice-requires
slice-requires g c =
    let b = c.args.block.now in
    let w = c.lift_words-words.ensures.words in (
      c.start.ensures ∙ sym w.at,
      omega (arith, w.first),
      slice-laid c.args.self.now b.place b.need c.lift_words-words.result (b.place + 1) c.usable_words-count.result w refl c.usable_words-count.ensures,
    )

pub lay_words-requires-clause-lifted : goal.lay_words-requires-clause-lifted
lay_words-requires-clause-lifted g c =
    let p = c.args.pass.now in
    let b = c.args.block.now in
    let words = c.lift_words-words.result in
    let x = c.lift_words-words.ensures in
    let ns = numbers words.places in
    let many = long-numbers x.words.laid.0 words.places x.words.laid.1 in
    record {
      before = p;
      lifted = lifts c.args.self.now p c.lift_words-words.new.pass b.place b.need words c.requires.of c.requires.idle c.requires.owned x.words x.lifted;
      leads = reads-from b.place b.need [] (view p).lent (view p).lent ns 0 ns (omega (arith, many, x.words.long)) (λ k below. let e : 0 + k ≡ k = omega arith in ap (slice_index ns) e);
    }

pub returns : goal.returns
returns g c =
    let h = c.args.self.now in
    let p = c.args.pass.now in
    let b = c.args.block.now in
    let words = c.lift_words-words.result in
    let x = c.lift_words-words.ensures in
    let ns = numbers words.places in
    let q = c.lay_words.new.pass in
    let many = long-numbers x.words.laid.0 words.places x.words.laid.1 ∙ x.words.long in
    let is = slice-is h b.place b.need words (b.place + 1) c.usable_words-count.result c.slice.result.now x.words refl c.usable_words-count.ensures c.slice.ensures in
    let l = lifts h p c.lift_words-words.new.pass b.place b.need words c.requires.of c.requires.idle c.requires.owned x.words x.lifted in
    let leads = c.lay_words.ensures p l in
    let made = found_from b.place b.need 0 ns in
    let has = has-made h p q made c.requires.of c.requires.idle (on-founds b.place b.need 0 ns) leads in
    record {
      of = has.of;
      idle = has.idle;
      keeps = λ other. has.keeps other.place other.need;
      lent = has.lent;
      sums = (ns, many, c.sum_of-total.ensures ∙ ap (λ (l : List ℕ). sum l % 2 ^ 64) (sym is), leads);
      accesses = has.accesses ∙ ap (λ n. n + accesses p) (founds-long b.place b.need 0 ns ∙ many);
    }
