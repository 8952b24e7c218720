use Rattle.std.proofs.Common.{ℕ, ◌<◌, ◌^◌, ◌+◌, length, slice_index, refl, sym, ap, ◌∙◌, subst, arith}
use Rattle.heap_geometry.specs.Need.{usable_words}
use Rattle.plain_words.specs.Places.{numbers}
use Rattle.live_heap.specs.Passes.{view}
use Rattle.live_heap.proofs.Copying.{copies-itself}
use Rattle.live_heap.proofs.Lifting.{lifts, slice-is, slice-laid}
use Rattle.live_heap.proofs.Taking.{long-numbers}
use Rattle.live_heap.proofs.heap.Heap.copy_itself.Goals as goal

pub slice-requires : goal.slice-requires
slice-requires g c =
    let b = c.args.block in
    let w = c.lift_words-words.ensures.words in (
      c.start.ensures ∙ sym w.at,
      omega (arith, w.first),
      slice-laid c.args.self.now b.place b.need c.lift_words-words.result (b.place + 1) c.usable_words-count.result w refl c.usable_words-count.ensures,
    )

pub lay_words-requires-clause-lifted : goal.lay_words-requires-clause-lifted
lay_words-requires-clause-lifted g c =
    let h = c.args.self.now in
    let p = c.args.pass.now in
    let b = c.args.block in
    let words = c.lift_words-words.result in
    let x = c.lift_words-words.ensures in
    let ns = numbers words.places in
    let many = long-numbers x.words.laid.0 words.places x.words.laid.1 ∙ x.words.long in
    let is = slice-is h b.place b.need words (b.place + 1) c.usable_words-count.result c.slice.result.now x.words refl c.usable_words-count.ensures c.slice.ensures in
    let small : (i : ℕ) → i < usable_words b.need → slice_index ns i < 2 ^ 64 = λ i inside.
    subst (λ l. slice_index l i < 2 ^ 64) (sym is) (c.are_small.ensures i (omega (arith, inside, many, ap length is))) in
    record {
      before = p;
      lifted = lifts h p c.lift_words-words.new.pass b.place b.need words c.requires.of c.requires.idle c.requires.owned x.words x.lifted;
      leads = copies-itself b.place b.need (view p).lent (view p).lent ns many small;
    }

pub returns : goal.returns
returns g c =
    let h = c.args.self.now in
    let p = c.args.pass.now in
    let b = c.args.block in
    let words = c.lift_words-words.result in
    let x = c.lift_words-words.ensures in
    let many = long-numbers x.words.laid.0 words.places x.words.laid.1 ∙ x.words.long in
    let l = lifts h p c.lift_words-words.new.pass b.place b.need words c.requires.of c.requires.idle c.requires.owned x.words x.lifted in
    (numbers words.places, omega (arith, many), c.lay_words.ensures p l)
