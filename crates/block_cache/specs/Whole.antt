-- Whole calls through a cache, each together with what resumes it.
use Rattle.std.specs.Prelude.{ℕ, ◌≡◌, ◌≢◌, All}
use Rattle.heap_geometry.specs.declared.need.Need.{Need}
use Rattle.heap_geometry.specs.Need.{need_of}
use Rattle.errand_steps.specs.declared.reply.Reply.{Reply}
use Rattle.errand_steps.specs.declared.reply.Reply.TheVariants as reply
use Rattle.errand_steps.specs.Begins.{IsIdle}
use Rattle.errand_steps.specs.Calls.{Call, alloc, free, put, read, take, write}
use Rattle.live_heap.specs.declared.answers.AllocAnswer.{AllocAnswer}
use Rattle.live_heap.specs.declared.answers.AllocAnswer.TheVariants as answer
use Rattle.live_heap.specs.declared.block.Block.{Block}
use Rattle.live_heap.specs.Heaps.{HeapFields}
use Rattle.live_heap.specs.Passes.{OwnsAt}
use Rattle.live_heap.specs.Whole.{IsWhole}
use Rattle.block_cache.specs.declared.cache.Cache.{Cache}
use Rattle.block_cache.specs.Caches.{HasFor, HasKept, HasRoom, HasServed, IsCache, KeepsMagazines, cached_in}

-- a cache of this heap that is in no call
abbrev pub RestsAt : HeapFields → Cache → Type 0
RestsAt h c = IsCache h c × IsIdle c.pass.errand

-- a cache's caller holds the block at the place, which serves this need
abbrev pub HoldsAt : Cache → ℕ → Need → Type 0
HoldsAt c place need = OwnsAt c.pass place need × All (λ other. other.place ≢ place) (cached_in c)

-- a call that is the heap's: an allocation for which no magazine has a block, a free for which none has room, and each other call; a block that it is about is held
abbrev pub Asks : Cache → Call → Type 0
Asks c (alloc words) = ¬ HasFor c (need_of words)
Asks c (free place need) = (¬ HasRoom c need) × HoldsAt c place need
Asks c (write place need i value) = HoldsAt c place need
Asks c (read place need i) = HoldsAt c place need
Asks c (put place need shelf) = HoldsAt c place need
Asks c (take shelf) = Unit {0}

-- a whole call through a cache: a magazine serves an allocation, or keeps a freed block; or it is a whole call of the heap
pub data MadeByCache (h : HeapFields) (c : Cache) (call : Call) (answer : Reply) (d : Cache) : Type 0 where
  served : (words : ℕ) (block : Block) → call ≡ alloc words → answer ≡ reply.Given block.place block.need → HasServed c words block d
      → MadeByCache h c call answer d
  kept : (block : Block) → call ≡ free block.place block.need → answer ≡ reply.Freed → HoldsAt c block.place block.need → HasRoom c block.need
      → HasKept c block d → MadeByCache h c call answer d
  asked : Asks c call → IsWhole h c.pass call answer h d.pass → KeepsMagazines c d → MadeByCache h c call answer d

-- a whole call through a cache of this heap, which leaves it in no call
pub record IsWholeCall (h : HeapFields) (c : Cache) (call : Call) (answer : Reply) (d : Cache) : Type 0 where
  pub before : RestsAt h c
  pub after : RestsAt h d
  pub made : MadeByCache h c call answer d

-- a whole call that leaves the magazines as they are
abbrev pub IsWholeOnWord : HeapFields → Cache → Call → Reply → Cache → Type 0
IsWholeOnWord h c call answer d = IsWholeCall h c call answer d × KeepsMagazines c d

-- an allocation has ended, and its answer is this reply
abbrev pub EndsAs : AllocAnswer Block → Reply → Type 0
EndsAs (answer.Given block) told = told ≡ reply.Given block.place block.need
EndsAs answer.Refused told = told ≡ reply.Refused
EndsAs answer.Spent told = told ≡ reply.Spent
EndsAs other told = ⊥
