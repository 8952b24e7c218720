-- A cache in front of a heap.
use Rattle.std.specs.Prelude.{ℕ, ◌≡◌, ◌≢◌, ◌≤◌, ◌+◌, ◌-◌, ◌^◌, ◌++◌, List, All, min}
use Rattle.heap_geometry.specs.declared.need.Need.{Need}
use Rattle.heap_geometry.specs.declared.need.Need.TheVariants.{Small}
use Rattle.heap_geometry.specs.Need.{need_of}
use Rattle.live_heap.specs.declared.block.Block.{Block}
use Rattle.live_heap.specs.Heaps.{HeapFields}
use Rattle.live_heap.specs.Hands.{IsHand}
use Rattle.live_heap.specs.Passes.{Owns}
use Rattle.block_cache.specs.declared.cache.Cache.{Cache}
use Rattle.block_cache.specs.Accounts.{HasAll}
use Rattle.block_cache.specs.Magazines.{AreForClasses, HasOnTop, HasOneFor, HasRoomFor, all_in, stack_at, stacks_of}

-- the stacks of a cache's magazines, and that of a class
abbrev pub stacks_in : Cache → List (List Block)
stacks_in c = stacks_of c.magazines.stacks.items

abbrev pub magazine_in : Cache → ℕ → List Block
magazine_in c class = stack_at (stacks_in c) class

-- the blocks in a cache's magazines
abbrev pub cached_in : Cache → List Block
cached_in c = all_in (stacks_in c)

-- a cache in front of this heap: for each class a magazine of its blocks, at most as many as the depth says, and all of them are in the pass's hand
pub record IsCache (h : HeapFields) (c : Cache) : Type 0 where
  pub hand : IsHand h c.pass (cached_in c)
  pub magazines : AreForClasses (λ (block : Block). block.need) c.magazines.depth c.magazines.stacks.items
  pub few : c.magazines.depth ≤ 64

-- the blocks that a cache's caller holds, which was given or has taken them, and has neither freed nor put them: with those in magazines they are all that it owns, each once, but for the one that a call under way is about
abbrev pub Holds : Cache → List Block → Type 0
Holds c held = HasAll c.pass (held ++ cached_in c)

-- a cache's caller holds this block: it is the pass's, and in no magazine
abbrev pub HoldsBlock : Cache → Block → Type 0
HoldsBlock c block = Owns c.pass block × All (λ other. other.place ≢ block.place) (cached_in c)

-- the magazine for this need has a block; the magazine has room for one more
abbrev pub HasFor : Cache → Need → Type 0
HasFor c need = HasOneFor (stacks_in c) need

abbrev pub HasRoom : Cache → Need → Type 0
HasRoom c need = HasRoomFor c.magazines.depth (stacks_in c) need

-- the last block of a magazine is given, one hit more is counted, and nothing else happens: the pass is the very same
pub record HasServed (c : Cache) (words : ℕ) (block : Block) (d : Cache) : Type 0 where
  pub class : ℕ
  pub small : need_of words ≡ Small class
  pub serves : block.need ≡ Small class
  pub top : HasOnTop class block (stacks_in c) (stacks_in d)
  pub pass : d.pass ≡ c.pass
  pub hits : d.hits ≡ min (c.hits + 1) (2 ^ 64 - 1)

-- a freed block is laid on its magazine, and nothing else happens
pub record HasKept (c : Cache) (block : Block) (d : Cache) : Type 0 where
  pub class : ℕ
  pub small : block.need ≡ Small class
  pub top : HasOnTop class block (stacks_in d) (stacks_in c)
  pub pass : d.pass ≡ c.pass
  pub hits : d.hits ≡ c.hits

-- the heap was asked: magazines and hits are as they were
pub record KeepsMagazines (c d : Cache) : Type 0 where
  pub magazines : d.magazines ≡ c.magazines
  pub hits : d.hits ≡ c.hits
