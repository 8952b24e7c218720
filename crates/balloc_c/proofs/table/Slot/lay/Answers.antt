use Rattle.std.proofs.Common.{◌≡◌, Some, sym, ap, ◌∙◌}
use Rattle.live_heap.specs.declared.plain.Memory.{Memory}
use Rattle.live_heap.proofs.laws_for_builders.Hands.{block-same}
use Rattle.balloc_c.specs.declared.kept.Kept.TheVariants as kept
use Rattle.balloc_c.specs.declared.lent.LentBlock.{LentBlock}
use Rattle.balloc_c.specs.Kept.{block_of, kept_in, memory_of}
use Rattle.balloc_c.proofs.table.Slot.lay.Goals as goal

pub returns-clause-laid : goal.returns-clause-laid
returns-clause-laid c =
    let lent : LentBlock = c.in-Out.lent in
    let memory : Memory = c.of_words.result in
    let token : memory.block ≡ block_of (kept.Out lent) =
    block-same memory.block (block_of (kept.Out lent)) c.of_words.ensures.block.0 c.of_words.ensures.block.1 in
    let whole : memory ≡ memory_of lent c.args.words = λ j. record { block = token j; words = c.of_words.ensures.words j } in (
      lent,
      ap kept_in (sym c.replace.ensures.value ∙ c.in-Out.is),
      ap (λ (m : Memory). Some (kept.Laid m)) whole,
    )
