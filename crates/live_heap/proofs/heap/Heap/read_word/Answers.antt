use Rattle.std.proofs.Common.{◌≡◌, ◌-◌, slice_index, refl, sym, ap, ◌∙◌, subst, inl, arith}
use Rattle.plain_words.specs.Places.{IsLaid, laid, number, numbers, place_at}
use Rattle.errand_steps.specs.declared.reply.Reply.TheVariants as reply
use Rattle.errand_steps.specs.Calls.{read}
use Rattle.sound_laws.specs.events.Made.{answered}
use Rattle.live_heap.specs.Words.{CallsOnWord}
use Rattle.live_heap.proofs.Lifting.{lifts, one-made, word-laid}
use Rattle.live_heap.proofs.heap.Heap.read_word.Goals as goal

pub word-found-requires : goal.word-found-requires
word-found-requires g c =
    let w = c.lift_words-words.ensures.words in
    let words = c.lift_words-words.result in
    let i = c.args.i in
    let at : c.payload-at.result - words.first ≡ i = omega (arith, c.payload-at.ensures, w.first) in
    let there = word-laid c.args.self.now c.args.place c.args.need words i w c.requires.word in (
      c.start.ensures ∙ sym w.at,
      omega (arith, c.payload-at.ensures, w.first),
      subst (IsLaid words.places) (sym at) (there ∙ ap laid (sym (ap number there))),
    )

pub lay_words-requires-clause-lifted : goal.lay_words-requires-clause-lifted
lay_words-requires-clause-lifted g c =
    let x = c.lift_words-words.ensures in
    let words = c.lift_words-words.result in
    let p = c.args.pass.now in
    record {
      before = p;
      lifted = lifts c.args.self.now p c.lift_words-words.new.pass c.args.place c.args.need words c.requires.of c.requires.idle c.requires.owned x.words x.lifted;
      leads = (numbers words.places, (inl (refl, refl, c.requires.word, refl), refl), refl);
    }

pub returns : goal.returns
returns g c =
    let h = c.args.self.now in
    let p = c.args.pass.now in
    let place = c.args.place in
    let need = c.args.need in
    let i = c.args.i in
    let x = c.lift_words-words.ensures in
    let w = x.words in
    let words = c.lift_words-words.result in
    let q = c.lay_words.new.pass in
    let l = lifts h p c.lift_words-words.new.pass place need words c.requires.of c.requires.idle c.requires.owned w x.lifted in
    let one = one-made h p q (answered (read place need i) (reply.Word (slice_index (numbers words.places) i))) (c.lay_words.ensures p l) in
    let at : c.payload-at.result - words.first ≡ i = omega (arith, c.payload-at.ensures, w.first) in
    let is : slice_index (numbers words.places) i ≡ c.word-found.result =
    ap number (sym (word-laid h place need words i w c.requires.word) ∙ ap (place_at words.places) (sym at) ∙ c.word-found.ensures) in
    subst (λ n. CallsOnWord h p (read place need i) (reply.Word n) q) is one
