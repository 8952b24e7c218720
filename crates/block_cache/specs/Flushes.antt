-- What empties magazines.
use Rattle.std.specs.Prelude.{ℕ, ◌≡◌, ◌++◌, List, [], ◌∷◌}
use Rattle.live_heap.specs.declared.answers.FreeAnswer.{FreeAnswer}
use Rattle.live_heap.specs.declared.answers.FreeAnswer.TheVariants as answer
use Rattle.live_heap.specs.declared.block.Block.{Block}
use Rattle.live_heap.specs.Heaps.{HeapFields}
use Rattle.live_heap.specs.declared.pass.Pass.{Pass}
use Rattle.live_heap.specs.Answers.{FreeTells}
use Rattle.live_heap.specs.Passes.{IsOf}
use Rattle.block_cache.specs.declared.cache.Cache.{Cache}
use Rattle.block_cache.specs.Caches.{stacks_in}
use Rattle.block_cache.specs.Magazines.{leaving}

-- the pass of this heap has freed these blocks, one after the other, each with so many tries
abbrev pub Frees : HeapFields → Pass → List Block → ℕ → Pass → Type 0
Frees h p [] tries q = q ≡ p
Frees h p (block ∷ blocks) tries q = (next : Pass) × IsOf h next × FreeTells p block tries answer.Freed next × Frees h next blocks tries q

-- the free of a block was interrupted behind others; the blocks behind it are left
pub record HasStopped (h : HeapFields) (p : Pass) (leave left : List Block) (tries : ℕ) (q : Pass) : Type 0 where
  pub freed : List Block
  pub block : Block
  pub next : Pass
  pub order : leave ≡ freed ++ block ∷ left
  pub frees : Frees h p freed tries next
  pub busy : FreeTells next block tries answer.Busy q

-- what a flush has come to: all blocks of the magazines were freed; or the free of one of them was interrupted, and it has left its magazine
abbrev pub FlushTells : HeapFields → Cache → ℕ → FreeAnswer → Cache → Type 0
FlushTells h c tries answer.Freed d = (leaving (stacks_in d) ≡ []) × Frees h c.pass (leaving (stacks_in c)) tries d.pass
FlushTells h c tries answer.Busy d = HasStopped h c.pass (leaving (stacks_in c)) (leaving (stacks_in d)) tries d.pass
