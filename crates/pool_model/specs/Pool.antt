-- The live blocks of a heap, and how each event changes them.
use Rattle.std.specs.Prelude.{ℕ, ◌+◌, ◌==◌, ◌≡◌, List, [], ◌∷◌, Option, Some, None, replicate, slice_set, sum_by, if◌then◌else◌}
use Rattle.heap_geometry.specs.declared.need.Need.{Need}
use Rattle.heap_geometry.specs.Need.{need_of, usable_words}
use Rattle.heap_geometry.specs.Place.{Span}
use Rattle.pool_model.specs.declared.owner.Owner.{Owner}
use Rattle.pool_model.specs.declared.owner.Owner.TheVariants.{Caller, Shelf}
use Rattle.pool_model.specs.declared.event.Event.{Event}
use Rattle.pool_model.specs.declared.event.Event.TheVariants.{Alloc, Looked, Refuse, Free, Write, Put, Take, TakeNone}

-- a live block: the arena word of its prefix, what it serves, who owns it, and what each usable word holds, where it was written
pub record Block : Type 0 where
  pub place : ℕ
  pub need : Need
  pub owner : Owner
  pub contents : List (Option ℕ)

-- the live blocks; their order means nothing
abbrev pub Pool : Type 0
Pool = List Block

-- the block at a place, where one is live there
abbrev pub block_at : ℕ → Pool → Option Block
block_at place [] = None
block_at place (block ∷ pool) = if block.place == place then Some block else block_at place pool

-- each live block has a property
abbrev pub EachBlock : (Block → Type 0) → Pool → Type 0
EachBlock P pool = (place : ℕ) (block : Block) → block_at place pool ≡ Some block → P block

-- the owner owns the live block at the place
abbrev pub Owns : Pool → Owner → ℕ → Type 0
Owns pool owner place = (block : Block) × (block_at place pool ≡ Some block) × (block.owner ≡ owner)

-- the words of a live block: its prefix and its usable words
abbrev pub span_of : Block → Span
span_of block = record { first = block.place; words = 1 + usable_words block.need }

-- a block as it is given: no word is written yet
abbrev pub fresh_block : ℕ → ℕ → ℕ → Block
fresh_block caller need place =
    record {
      place = place;
      need = need_of need;
      owner = Caller caller;
      contents = replicate (usable_words (need_of need)) None;
    }

-- the block with one word written, and the block with another owner
abbrev pub written : ℕ → ℕ → Block → Block
written i v block = record block { contents = slice_set block.contents i (Some v) }

abbrev pub handed_to : Owner → Block → Block
handed_to owner block = record block { owner = owner }

-- the pool without the block at a place
abbrev pub without : ℕ → Pool → Pool
without place [] = []
without place (block ∷ pool) = if block.place == place then pool else block ∷ without place pool

-- the pool with the block at a place changed
abbrev pub with_changed : ℕ → (Block → Block) → Pool → Pool
with_changed place change [] = []
with_changed place change (block ∷ pool) =
    if block.place == place then change block ∷ pool else block ∷ with_changed place change pool

-- the pool after an event
abbrev pub pool_after : Pool → Event → Pool
pool_after pool (Alloc caller need place) = fresh_block caller need place ∷ pool
pool_after pool (Looked caller class) = pool
pool_after pool (Refuse caller need) = pool
pool_after pool (Free caller place) = without place pool
pool_after pool (Write caller place i v) = with_changed place (written i v) pool
pool_after pool (Put caller place shelf) = with_changed place (handed_to (Shelf shelf)) pool
pool_after pool (Take caller shelf place) = with_changed place (handed_to (Caller caller)) pool
pool_after pool (TakeNone caller shelf) = pool

-- the pool that events leave, the first one first
abbrev pub pool_from : Pool → List Event → Pool
pool_from pool [] = pool
pool_from pool (event ∷ events) = pool_from (pool_after pool event) events

-- the pool of a history: no block is live before its first event
abbrev pub pool_of : List Event → Pool
pool_of history = pool_from [] history

-- the usable words of all live blocks
abbrev pub live_words : Pool → ℕ
live_words pool = sum_by (λ block. usable_words block.need) pool
