use Rattle.std.proofs.Common.{refl, ◌∙◌}
use Rattle.live_heap.proofs.laws_for_builders.Hands.{block-same}
use Rattle.balloc_c.specs.declared.kept.Kept.TheVariants as kept
use Rattle.balloc_c.specs.declared.lent.LentBlock.{LentBlock}
use Rattle.balloc_c.specs.Kept.{block_of}
use Rattle.balloc_c.proofs.table.Slot.lift.Goals as goal

pub returns-clause-out : goal.returns-clause-out
returns-clause-out c =
    let lent : LentBlock = c.new.result in (
      lent,
      refl,
      block-same (block_of (kept.Out lent)) c.in-Laid.memory.block (c.new.ensures.0 ∙ c.place.ensures) (c.new.ensures.1 ∙ c.need.ensures),
    )
