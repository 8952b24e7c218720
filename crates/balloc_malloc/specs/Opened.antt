-- How a heap opens for C.
use Rattle.std.specs.Prelude.{ℕ, zero, suc, ◌≡◌, ◌<◌, ◌≤◌, ◌⊎◌, Option, None, IsSomeAnd, Result, Ok, Err, List, [], ◌∷◌, min}
use Rattle.heap_geometry.specs.declared.geometry.Geometry.{Geometry}
use Rattle.heap_geometry.specs.declared.limits.TheConstants.{MAX_TURNS}
use Rattle.heap_geometry.specs.Geometry.{IsChecked}
use Rattle.live_heap.specs.Heaps.{HeapFields}
use Rattle.live_heap.specs.Passes.{IsFresh}
use Rattle.memory_cache.specs.Caches.{kept_in}
use Rattle.memory_cache.specs.Paged.{IsOut}
use Rattle.plain_words.specs.declared.plain.Start.{Start}
use Rattle.balloc_malloc.specs.declared.codes.TheConstants.{BAD_NUMBERS, NO_MEMORY}
use Rattle.balloc_malloc.specs.declared.tenant.Tenant.{Tenant}
use Rattle.balloc_malloc.specs.declared.seat.ThreadSeat.{ThreadSeat}
use Rattle.balloc_malloc.specs.Tenants.{heap_of}

-- the numbers of a heap with one caller for each seat and no units; more seats than there may be stand for all that are more
abbrev pub numbers : ℕ → ℕ → ℕ → Geometry
numbers frames heaps seats = record { frames = frames; heaps = heaps; units = 0; callers = min seats 1000; turn_limit = MAX_TURNS }

-- what a seat of a row has; nothing, behind the last
abbrev pub held_at : List ThreadSeat → ℕ → Option Tenant
held_at [] number = None
held_at (seat ∷ seats) zero = seat.held.tenant
held_at (seat ∷ seats) (suc number) = held_at seats number

-- none of the seats has a pass
abbrev pub AreEmpty : List ThreadSeat → Type 0
AreEmpty seats = (number : ℕ) → held_at seats number ≡ None

-- the numbers are in their ranges, and magazines have room for so many pages
abbrev pub Fit : Geometry → ℕ → Type 0
Fit g depth = IsChecked g × (depth ≤ 4096)

-- the pass of this caller of the heap, which has made no step and has no block; nothing is out with C, and magazines are empty, with room for so many pages each
pub record IsNew (h : HeapFields) (number depth : ℕ) (tenant : Tenant) : Type 0 where
  pub heap : heap_of tenant ≡ h
  pub fresh : IsFresh h tenant.cache.cache.pass
  pub caller : tenant.cache.cache.pass.errand.caller ≡ number
  pub none : (first size : ℕ) → ¬ IsOut tenant.cache first size
  pub empty : kept_in tenant.cache.cache ≡ []
  pub deep : tenant.cache.cache.magazines.depth ≡ depth
  pub hits : tenant.cache.hits ≡ 0

-- the first seats have the passes of the first callers of the heap
abbrev pub HoldNew : HeapFields → ℕ → ℕ → List ThreadSeat → Type 0
HoldNew h depth count seats = (number : ℕ) → number < count → IsSomeAnd (held_at seats number) (IsNew h number depth)

-- a heap with these numbers is opened for seats that were empty, each seat has a pass of it, and this is where its memory begins
pub record HasOpened (before : List ThreadSeat) (g : Geometry) (depth : ℕ) (start : Start) (after : List ThreadSeat) : Type 0 where
  pub empty : AreEmpty before
  pub fit : Fit g depth
  pub heap : HeapFields
  pub layout : heap.layout ≡ g
  pub begins : start.at ≡ heap.region.at
  pub new : HoldNew heap depth g.callers after

-- why no heap is opened: a seat has a pass, or a number is out of its range, and the seats are as they were; or there is no memory, and they are empty as before
abbrev pub Refuses : List ThreadSeat → Geometry → ℕ → ℕ → List ThreadSeat → Type 0
Refuses before g depth code after =
    ((code ≡ BAD_NUMBERS) × ((¬ AreEmpty before) ⊎ (¬ Fit g depth)) × (after ≡ before))
    ⊎ ((code ≡ NO_MEMORY) × AreEmpty before × Fit g depth × AreEmpty after)

-- a heap is opened, or not
abbrev pub Opens : List ThreadSeat → Geometry → ℕ → Result Start ℕ → List ThreadSeat → Type 0
Opens before g depth (Ok start) after = HasOpened before g depth start after
Opens before g depth (Err code) after = Refuses before g depth code after
