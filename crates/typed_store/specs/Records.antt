-- How a block spells a record.
use Rattle.std.specs.Prelude.{ℕ, suc, ◌≡◌, List, Some, length, slice_get}
use Rattle.std.specs.List.{EachIndex}
use Rattle.live_heap.specs.declared.block.Block.{Block}
use Rattle.live_heap.specs.declared.pass.Pass.{Pass}
use Rattle.live_heap.specs.Contents.{word_in}

-- the pass's block begins with how many words there are, and with these words; what stands behind them means nothing
pub record IsRecord (p : Pass) (block : Block) (words : List ℕ) : Type 0 where
  pub counted : word_in p block.place 0 ≡ Some (length words)
  pub each : EachIndex words (λ i. word_in p block.place (suc i) ≡ slice_get words i)
