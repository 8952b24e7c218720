-- What stands behind an allocator.
use Rattle.std.specs.Prelude.{ℕ, ◌≡◌, ◌<◌, ◌⊎◌, IfSome, IsSomeAnd}
use Rattle.errand_steps.specs.Begins.{IsBusy}
use Rattle.live_heap.specs.Heaps.{HeapFields}
use Rattle.memory_cache.specs.Paged.{IsOut, IsPaged}
use Rattle.memory_cache.specs.declared.paged.PagedCache.{PagedCache}
use Rattle.heap_allocator.specs.declared.desk.Desk.{Desk}

-- a desk of this heap: its cache, where it has one, is in front of the heap
pub record IsDesk (h : HeapFields) (d : Desk) : Type 0 where
  pub cache : IfSome d.cache (IsPaged h)
  pub tries : 0 < d.tries

-- a collection has the piece of so many words from this one on
abbrev pub IsOutOf : Desk → ℕ → ℕ → Type 0
IsOutOf d first size = IsSomeAnd d.cache (λ cache. IsOut cache first size)

-- why a cache can't be closed: a call is under way, or a piece is out
abbrev pub StaysOpen : PagedCache → Type 0
StaysOpen c = IsBusy c.cache.pass.errand ⊎ ((first : ℕ) × (size : ℕ) × IsOut c first size)

-- its cache, where it has one, is of a pass of the caller with this number
abbrev pub IsCallers : ℕ → Desk → Type 0
IsCallers caller d = IfSome d.cache (λ c. c.cache.pass.errand.caller ≡ caller)

-- whose pass stands behind an allocator: a heap, and the number of a caller of it
pub record Owner : Type 0 where
  pub heap : HeapFields
  pub caller : ℕ

abbrev pub IsDeskOf : Owner → Desk → Type 0
IsDeskOf o d = IsDesk o.heap d × IsCallers o.caller d
