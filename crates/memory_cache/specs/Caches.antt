-- A memory cache in front of a heap.
use Rattle.std.specs.Prelude.{ℕ, ◌≡◌, ◌≢◌, ◌<◌, ◌+◌, ◌-◌, ◌^◌, ◌⊎◌, List, [], ◌∷◌, All, min}
use Rattle.heap_geometry.specs.declared.need.Need.{Need}
use Rattle.heap_geometry.specs.declared.need.Need.TheVariants.{Small}
use Rattle.heap_geometry.specs.Need.{need_of}
use Rattle.errand_steps.specs.Begins.{IsBusy}
use Rattle.live_heap.specs.Heaps.{HeapFields}
use Rattle.live_heap.specs.declared.pass.Pass.{Pass}
use Rattle.live_heap.specs.declared.plain.Memory.{Memory}
use Rattle.live_heap.specs.Memory.{HasTaken}
use Rattle.block_cache.specs.Magazines.{AreForClasses, HasOnTop, HasOneFor, HasRoomFor, all_in, stack_at, stacks_of}
use Rattle.memory_cache.specs.declared.cache.MemoryCache.{MemoryCache}
use Rattle.memory_cache.specs.Rooms.{IsRoomOf}
use Rattle.memory_cache.specs.Settled.{IsPassFor}

-- the stacks of a cache's magazines, and that of a class
abbrev pub stacks_in : MemoryCache → List (List Memory)
stacks_in c = stacks_of c.magazines.stacks.items

abbrev pub magazine_in : MemoryCache → ℕ → List Memory
magazine_in c class = stack_at (stacks_in c) class

-- the pieces in a cache's magazines
abbrev pub kept_in : MemoryCache → List Memory
kept_in c = all_in (stacks_in c)

-- all of the pieces lie at other places than this one
abbrev pub LieApart : Memory → List Memory → Type 0
LieApart m others = All (λ other. other.block.place ≢ m.block.place) others

-- the pieces are memory of the heap that is out with the pass, and no two of them lie at one place
abbrev pub AreKept : HeapFields → Pass → List Memory → Type 0
AreKept h p [] = Unit {0}
AreKept h p (m ∷ ms) = (IsRoomOf h m × HasTaken p m) × LieApart m ms × AreKept h p ms

-- a cache in front of this heap: its pass is settled or has a call under way; for each class there is a magazine of pieces of its blocks, at most as many as the depth says; and all of them are out with the pass
pub record IsCache (h : HeapFields) (c : MemoryCache) : Type 0 where
  pub pass : IsPassFor h c.pass
  pub magazines : AreForClasses (λ (memory : Memory). memory.block.need) c.magazines.depth c.magazines.stacks.items
  pub kept : AreKept h c.pass (kept_in c)

-- a cache's caller holds this memory: it is out with the pass, and in no magazine
abbrev pub IsHeld : MemoryCache → Memory → Type 0
IsHeld c m = HasTaken c.pass m × LieApart m (kept_in c)

-- the magazine for this need has a piece; the magazine has room for one more
abbrev pub HasFor : MemoryCache → Need → Type 0
HasFor c need = HasOneFor (stacks_in c) need

abbrev pub HasRoom : MemoryCache → Need → Type 0
HasRoom c need = HasRoomFor c.magazines.depth (stacks_in c) need

-- the last piece of a magazine is given, one hit more is counted, and nothing else happens: the pass is the very same
pub record HasServed (c : MemoryCache) (words : ℕ) (memory : Memory) (d : MemoryCache) : Type 0 where
  pub class : ℕ
  pub small : need_of words ≡ Small class
  pub serves : memory.block.need ≡ Small class
  pub top : HasOnTop class memory (stacks_in c) (stacks_in d)
  pub pass : d.pass ≡ c.pass
  pub hits : d.hits ≡ min (c.hits + 1) (2 ^ 64 - 1)

-- memory that is given back is laid on its magazine, and nothing else happens
pub record HasKept (c : MemoryCache) (memory : Memory) (d : MemoryCache) : Type 0 where
  pub class : ℕ
  pub small : memory.block.need ≡ Small class
  pub top : HasOnTop class memory (stacks_in d) (stacks_in c)
  pub pass : d.pass ≡ c.pass
  pub hits : d.hits ≡ c.hits

-- magazines and hits are as they were
pub record KeepsMagazines (c d : MemoryCache) : Type 0 where
  pub magazines : d.magazines ≡ c.magazines
  pub hits : d.hits ≡ c.hits

-- why a cache can't be closed: a call is under way; or its caller holds memory, since the magazines are empty and words are out
abbrev pub StaysOpen : MemoryCache → Type 0
StaysOpen c = IsBusy c.pass.errand ⊎ ((kept_in c ≡ []) × (0 < c.pass.out))
