use Rattle.std.proofs.Common.{ℕ, ◌≡◌, ◌∙◌, List, ap, length, replicate}
use Rattle.heap_geometry.specs.Need.{usable_words}
use Rattle.plain_words.specs.Places.{numbers}
use Rattle.plain_words.specs.declared.plain.PlainWords.{PlainWords}
use Rattle.live_heap.proofs.laws_for_builders.Hands.{block-same}
use Rattle.live_heap.proofs.laws_for_builders.Memory.{numbers-laids}
use Rattle.memory_cache.proofs.passes.laid_with_zeros.Goals as goal

pub returns-clause-block : goal.returns-clause-block
returns-clause-block c =
    let b = c.of_words.ensures.block in
    block-same c.of_words.result.block c.args.memory.block (b.0 ∙ c.place-place.ensures) (b.1 ∙ c.need-need.ensures)

pub returns-clause-zeros : goal.returns-clause-zeros
returns-clause-zeros c =
    let zeros : ℕ → List ℕ = λ n. replicate n 0 in
    let count : length c.into_words-words.result.places ≡ usable_words c.args.memory.block.need =
    ap (λ (w : PlainWords). length w.places) c.into_words-words.ensures ∙ c.requires.long in
    ap (λ (w : PlainWords). numbers w.places) c.of_words.ensures.words
    ∙ ap numbers c.fill.ensures.2
    ∙ numbers-laids (zeros (length c.into_words-words.result.places)) ∙ ap zeros count
