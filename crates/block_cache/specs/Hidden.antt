-- The pool as the caller of a cache is to see it.
use Rattle.std.specs.Prelude.{ℕ, ◌==◌, ◌≡◌, ◌≢◌, Bool, true, false, List, [], ◌∷◌, Option, Some, None, filter, if◌then◌else◌}
use Rattle.heap_geometry.specs.Need.{need_of}
use Rattle.heap_geometry.specs.Place.{IsApart}
use Rattle.pool_model.specs.Owned.{owned_at}
use Rattle.pool_model.specs.Pool.{Block as PoolBlock, Pool, block_at, pool_of, span_of}
use Rattle.errand_steps.specs.declared.reply.Reply.{Reply}
use Rattle.errand_steps.specs.declared.reply.Reply.TheVariants as reply
use Rattle.errand_steps.specs.Calls.{Call, alloc, free}
use Rattle.live_heap.specs.declared.block.Block.{Block}
use Rattle.live_heap.specs.Passes.{seen}
use Rattle.block_cache.specs.declared.cache.Cache.{Cache}
use Rattle.block_cache.specs.Caches.{cached_in}

-- none of the blocks lies at the place
abbrev pub is_elsewhere : ℕ → List Block → Bool
is_elsewhere place [] = true
is_elsewhere place (block ∷ blocks) = if block.place == place then false else is_elsewhere place blocks

-- the hidden pool: that of the events seen, without the blocks in magazines
abbrev pub hidden_pool_of : Cache → Pool
hidden_pool_of c = filter (λ block. is_elsewhere block.place (cached_in c)) (pool_of (seen c.pass))

-- the caller's block at a place of the hidden pool, with its words
abbrev pub hidden_at : Cache → ℕ → Option PoolBlock
hidden_at c place = owned_at c.pass.errand.caller place (hidden_pool_of c)

-- the caller's blocks in the hidden pool are the same, with the same words
abbrev pub ShowsSame : Cache → Cache → Type 0
ShowsSame c d = (place : ℕ) → hidden_at d place ≡ hidden_at c place

-- at a place where it had none the caller has one more, for this need, and no word of it is one of another block of the pool, whoever owns that
pub record OwnsOneMore (c : Cache) (words place : ℕ) (d : Cache) : Type 0 where
  pub nothing : hidden_at c place ≡ None
  pub block : PoolBlock
  pub here : hidden_at d place ≡ Some block
  pub serves : block.need ≡ need_of words
  pub apart : (at : ℕ) (other : PoolBlock) → block_at at (hidden_pool_of d) ≡ Some other → at ≢ place → IsApart (span_of block) (span_of other)
  pub others : (other : ℕ) → other ≢ place → hidden_at d other ≡ hidden_at c other

-- the caller's block at this place goes from the hidden pool
pub record OwnsOneLess (c : Cache) (place : ℕ) (d : Cache) : Type 0 where
  pub here : hidden_at d place ≡ None
  pub others : (other : ℕ) → other ≢ place → hidden_at d other ≡ hidden_at c other

-- what an allocation or a free makes of the hidden pool; each other call is the heap's
abbrev pub Shows : Cache → Call → Reply → Cache → Type 0
Shows c (alloc words) (reply.Given place need) d = OwnsOneMore c words place d
Shows c (alloc words) answer d = ShowsSame c d
Shows c (free place need) answer d = OwnsOneLess c place d
Shows c call answer d = Unit {0}
