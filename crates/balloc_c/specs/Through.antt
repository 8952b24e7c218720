-- What a cache makes of calls: its magazines serve them, or the heap is asked.
use Rattle.std.specs.Prelude.{ℕ, ◌≡◌}
use Rattle.heap_geometry.specs.Need.{need_of}
use Rattle.live_heap.specs.declared.answers.AllocAnswer.{AllocAnswer}
use Rattle.live_heap.specs.declared.answers.AllocAnswer.TheVariants as alloc_answer
use Rattle.live_heap.specs.declared.answers.FreeAnswer.{FreeAnswer}
use Rattle.live_heap.specs.declared.answers.FreeAnswer.TheVariants as free_answer
use Rattle.live_heap.specs.declared.block.Block.{Block}
use Rattle.live_heap.specs.Heaps.{HeapFields}
use Rattle.live_heap.specs.declared.pass.Pass.{Pass}
use Rattle.live_heap.specs.Answers.{AllocTells, FreeTells}
use Rattle.live_heap.specs.Passes.{IsOf}
use Rattle.block_cache.specs.declared.cache.Cache.{Cache}
use Rattle.block_cache.specs.Caches.{HasFor, HasKept, HasRoom, HasServed, KeepsMagazines}
use Rattle.block_cache.specs.Flushes.{FlushTells}
use Rattle.balloc_c.specs.declared.calls.TheConstants.{TRIES}

-- the heap was asked, and this is what its pass made; the magazines are as they were
abbrev pub Asked : (Pass → Pass → Type 0) → Cache → Cache → Type 0
Asked Made c d = Made c.pass d.pass × KeepsMagazines c d

-- an allocation of so many words: a magazine that has a block for them gives it, and where none has one the heap is asked
pub record IsAllocation (c : Cache) (words : ℕ) (answer : AllocAnswer Block) (d : Cache) : Type 0 where
  pub served : HasFor c (need_of words) → (block : Block) × (answer ≡ alloc_answer.Given block) × HasServed c words block d
  pub asked : (¬ HasFor c (need_of words)) → Asked (λ p q. AllocTells p words TRIES answer q) c d
  pub depth : d.magazines.depth ≡ c.magazines.depth

-- a free of a block: a magazine that has room keeps it, and where none has the heap is asked
pub record IsFree (c : Cache) (block : Block) (answer : FreeAnswer) (d : Cache) : Type 0 where
  pub kept : HasRoom c block.need → (answer ≡ free_answer.Freed) × HasKept c block d
  pub asked : (¬ HasRoom c block.need) → Asked (λ p q. FreeTells p block TRIES answer q) c d
  pub depth : d.magazines.depth ≡ c.magazines.depth

-- the blocks of all magazines are freed by the heap; or the free of one is interrupted, and the blocks behind it stay
pub record IsFlush (c : Cache) (answer : FreeAnswer) (d : Cache) : Type 0 where
  pub heap : HeapFields
  pub of : IsOf heap c.pass
  pub tells : FlushTells heap c TRIES answer d
  pub depth : d.magazines.depth ≡ c.magazines.depth
  pub hits : d.hits ≡ c.hits
