use Rattle.std.proofs.Common.{ℕ, None, ◌≡◌, ◌-◌, List, length, slice_index, refl, sym, ap, ◌∙◌, subst, arith, get_or-set_same, length-set}
use Rattle.std.specs.Prelude.{slice_set}
use Rattle.plain_words.specs.Places.{IsHere, Place, laid, numbers, place_at}
use Rattle.errand_steps.specs.declared.reply.Reply.TheVariants as reply
use Rattle.errand_steps.specs.Calls.{write}
use Rattle.sound_laws.specs.events.Made.{answered}
use Rattle.live_heap.specs.Words.{CallsOnWord}
use Rattle.live_heap.proofs.Lifting.{laids-set, lifts, numbers-set, one-made, word-laid}
use Rattle.live_heap.proofs.Taking.{laid-numbers, long-numbers}
use Rattle.live_heap.proofs.heap.Heap.write_word.Goals as goal

pub lay-requires : goal.lay-requires
lay-requires g c =
    let w = c.lift_words-words.ensures.words in
    let words = c.lift_words-words.result in
    let i = c.args.i in
    let at : c.payload-at.result - words.first ≡ i = omega (arith, c.payload-at.ensures, w.first) in
    let there = word-laid c.args.self.now c.args.place c.args.need words i w c.requires.word in (
      c.start.ensures ∙ sym w.at,
      omega (arith, c.payload-at.ensures, w.first),
      omega (arith, c.payload-at.ensures, w.first, w.long, c.requires.word),
      subst (λ k. IsHere (place_at words.places k)) (sym at) (λ none. let e : laid (slice_index (numbers words.places) i) ≡ None = sym there ∙ none in cc),
    )

pub lay_words-requires-clause-words : goal.lay_words-requires-clause-words
lay_words-requires-clause-words g c =
    let w = c.lift_words-words.ensures.words in
    let words = c.lift_words-words.result in
    let i = c.args.i in
    let v = c.args.v in
    let at : c.payload-at.result - words.first ≡ i = omega (arith, c.payload-at.ensures, w.first) in
    let e = c.lay.ensures in
    record {
      at = e.0 ∙ w.at;
      first = e.1 ∙ w.first;
      long = ap length e.2 ∙ length-set words.places (c.payload-at.result - words.first) (laid v) ∙ w.long;
      laid = (
        slice_set (numbers words.places) i v,
        e.2 ∙ ap (λ k. slice_set words.places k (laid v)) at ∙ ap (λ (ps : List Place). slice_set ps i (laid v)) (laid-numbers w.laid.0 words.places w.laid.1)
            ∙ laids-set (numbers words.places) i v,
      );
    }

pub lay_words-requires-clause-lifted : goal.lay_words-requires-clause-lifted
lay_words-requires-clause-lifted g c =
    let x = c.lift_words-words.ensures in
    let words = c.lift_words-words.result in
    let p = c.args.pass.now in
    let i = c.args.i in
    let v = c.args.v in
    let at : c.payload-at.result - words.first ≡ i = omega (arith, c.payload-at.ensures, x.words.first) in
    let now : numbers c.lay.new.self.places ≡ slice_set (numbers words.places) i v =
    ap numbers (c.lay.ensures.2 ∙ ap (λ k. slice_set words.places k (laid v)) at) ∙ numbers-set words.places i v in
    let many : length (numbers words.places) ≡ length words.places = long-numbers x.words.laid.0 words.places x.words.laid.1 in
    let there : slice_index (numbers c.lay.new.self.places) i ≡ v =
    ap (λ (ns : List ℕ). slice_index ns i) now ∙ get_or-set_same (numbers words.places) i v 0 (omega (arith, many, x.words.long, c.requires.word)) in
    record {
      before = p;
      lifted = lifts c.args.self.now p c.lift_words-words.new.pass c.args.place c.args.need words c.requires.of c.requires.idle c.requires.owned x.words x.lifted;
      leads = (
        numbers c.lay.new.self.places,
        (refl, refl, c.requires.word, omega (arith, there), now ∙ ap (slice_set (numbers words.places) i) (sym there)),
        refl,
      );
    }

pub returns : goal.returns
returns g c =
    let h = c.args.self.now in
    let p = c.args.pass.now in
    let place = c.args.place in
    let need = c.args.need in
    let i = c.args.i in
    let v = c.args.v in
    let x = c.lift_words-words.ensures in
    let words = c.lift_words-words.result in
    let q = c.lay_words.new.pass in
    let l = lifts h p c.lift_words-words.new.pass place need words c.requires.of c.requires.idle c.requires.owned x.words x.lifted in
    let at : c.payload-at.result - words.first ≡ i = omega (arith, c.payload-at.ensures, x.words.first) in
    let now : numbers c.lay.new.self.places ≡ slice_set (numbers words.places) i v =
    ap numbers (c.lay.ensures.2 ∙ ap (λ k. slice_set words.places k (laid v)) at) ∙ numbers-set words.places i v in
    let many : length (numbers words.places) ≡ length words.places = long-numbers x.words.laid.0 words.places x.words.laid.1 in
    let there : slice_index (numbers c.lay.new.self.places) i ≡ v =
    ap (λ (ns : List ℕ). slice_index ns i) now ∙ get_or-set_same (numbers words.places) i v 0 (omega (arith, many, x.words.long, c.requires.word)) in
    let one = one-made h p q (answered (write place need i (slice_index (numbers c.lay.new.self.places) i)) reply.Wrote) (c.lay_words.ensures p l) in
    subst (λ n. CallsOnWord h p (write place need i n) reply.Wrote q) there one
