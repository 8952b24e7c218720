-- How a heap opens for C.
use Rattle.std.specs.Prelude.{ℕ, zero, suc, ◌≡◌, ◌<◌, ◌≤◌, Option, None, IsSomeAnd, Result, Ok, Err, List, [], ◌∷◌, min}
use Rattle.heap_geometry.specs.declared.geometry.Geometry.{Geometry}
use Rattle.heap_geometry.specs.Geometry.{IsChecked}
use Rattle.heap_geometry.specs.declared.limits.TheConstants.{CLASSES}
use Rattle.live_heap.specs.Heaps.{HeapFields}
use Rattle.live_heap.specs.Passes.{IsFresh}
use Rattle.block_cache.specs.Caches.{cached_in}
use Rattle.balloc_c.specs.declared.hand.Hand.{Hand}
use Rattle.balloc_c.specs.declared.handle.PassHandle.{PassHandle}
use Rattle.balloc_c.specs.declared.refusal.Refusal.{Refusal}
use Rattle.balloc_c.specs.declared.refusal.Refusal.TheVariants as refusal
use Rattle.balloc_c.specs.Laid.{room_of}
use Rattle.balloc_c.specs.Slots.{blocks_of}
use Rattle.balloc_c.specs.Hands.{heap_of}

-- the numbers of a heap with one caller for each handle; more than there may be stand for all that are more
abbrev pub numbers : ℕ → ℕ → ℕ → ℕ → ℕ → Geometry
numbers frames heaps units handles turn_limit =
    record { frames = frames; heaps = heaps; units = units; callers = min handles 1000; turn_limit = turn_limit }

-- what a handle of a row holds; nothing, behind the last
abbrev pub held_at : List PassHandle → ℕ → Option Hand
held_at [] number = None
held_at (handle ∷ handles) zero = handle.held.hand
held_at (handle ∷ handles) (suc number) = held_at handles number

-- none of the handles holds a pass
abbrev pub AreEmpty : List PassHandle → Type 0
AreEmpty handles = (number : ℕ) → held_at handles number ≡ None

-- the numbers are in their ranges, and magazines have room for so many blocks
abbrev pub Fit : Geometry → ℕ → Type 0
Fit g depth = IsChecked g × (depth ≤ 64)

-- the pass of this caller of the heap, with the ticket for it, which has made no step, and has no block and no slot for one; its magazines are empty, and have room for so many each, and so many it may keep that are home, and so many whose words are out
pub record IsNew (h : HeapFields) (number depth : ℕ) (hand : Hand) : Type 0 where
  pub heap : heap_of hand ≡ h
  pub fresh : IsFresh h hand.cache.pass
  pub caller : hand.cache.pass.errand.caller ≡ number
  pub ticket : hand.ticket.caller ≡ number
  pub bare : hand.table.slots.items ≡ []
  pub blocks : blocks_of hand.table.slots.items ≡ []
  pub empty : cached_in hand.cache ≡ []
  pub deep : hand.cache.magazines.depth ≡ depth
  pub rooms : (class : ℕ) → class < CLASSES → (room_of hand.table.resting class ≡ depth) × (room_of hand.table.laid class ≡ depth)
  pub hits : hand.cache.hits ≡ 0

-- the first handles hold the passes of the first callers of the heap
abbrev pub HoldNew : HeapFields → ℕ → ℕ → List PassHandle → Type 0
HoldNew h depth count handles = (number : ℕ) → number < count → IsSomeAnd (held_at handles number) (IsNew h number depth)

-- a heap with these numbers is opened for handles that were empty, and each handle holds a pass of it
pub record HasOpened (before : List PassHandle) (g : Geometry) (depth : ℕ) (after : List PassHandle) : Type 0 where
  pub empty : AreEmpty before
  pub fit : Fit g depth
  pub heap : HeapFields
  pub layout : heap.layout ≡ g
  pub new : HoldNew heap depth g.callers after

-- a heap is opened; or the first cause that stands bars that, and the handles are as they were; or there is no memory, and they are empty as before
abbrev pub Opens : List PassHandle → Geometry → ℕ → Result (Unit {0}) Refusal → List PassHandle → Type 0
Opens before g depth (Ok done) after = HasOpened before g depth after
Opens before g depth (Err refusal.InUse) after = (¬ AreEmpty before) × (after ≡ before)
Opens before g depth (Err refusal.BadNumbers) after = AreEmpty before × (¬ Fit g depth) × (after ≡ before)
Opens before g depth (Err refusal.NoMemory) after = AreEmpty before × Fit g depth × AreEmpty after
Opens before g depth (Err cause) after = ⊥
