-- What a closed heap holds.
use Rattle.std.specs.Prelude.{ℕ, Bool, false, ◌≡◌, ◌<◌, ◌+◌, ◌*◌, ◌==◌, ◌&&◌, ◌⊎◌, if◌then◌else◌, Option, Some, None, length, count_by, slice_index_or}
use Rattle.std.specs.Int.{bit_at}
use Rattle.heap_geometry.specs.declared.geometry.Geometry.{Geometry}
use Rattle.heap_geometry.specs.declared.limits.TheConstants.{CLASSES}
use Rattle.heap_geometry.specs.declared.need.Need.{Need}
use Rattle.heap_geometry.specs.declared.need.Need.TheVariants.{Small, Large, TooLarge}
use Rattle.heap_geometry.specs.Need.{block_count_of}
use Rattle.packed_words.specs.declared.active.ActiveWord.{ActiveWord}
use Rattle.packed_words.specs.declared.active.ActiveWord.TheVariants.{Null, Held}
use Rattle.packed_words.specs.declared.anchor.AnchorState.TheVariants as phase
use Rattle.packed_words.specs.Active.{active_of}
use Rattle.word_table.specs.declared.name.WordName.TheVariants as name
use Rattle.word_table.specs.Counts.{descriptor_count}
use Rattle.pool_model.specs.Pool.{pool_of}
use Rattle.errand_steps.specs.Steps.{State}
use Rattle.sound_state.specs.Lists.{Lists, IsListed}
use Rattle.sound_state.specs.Sums.{sum_below}
use Rattle.sound_state.specs.Superblocks.{anchor_for, info_for, is_bound}
use Rattle.step_machine.specs.Cores.{state_of}
use Rattle.live_heap.specs.Endings.{ClosedFields, machine_of}
use Rattle.heap_census.specs.declared.census.Census.{Census}
use Rattle.heap_census.specs.declared.census.ClassCount.{ClassCount}

-- the words of a closed heap by their names, its idle callers, and its history
abbrev pub closed_state : ClosedFields → State
closed_state c = state_of (machine_of c 0)

-- whether a descriptor has a superblock of the class
abbrev pub has_class : Geometry → State → Lists → ℕ → ℕ → Bool
has_class g s l class d = is_bound g s l d && ((info_for s d).class == class)

-- how many descriptors have a superblock of the class; and how many free blocks their anchors count
abbrev pub superblocks_of : Geometry → State → Lists → ℕ → ℕ
superblocks_of g s l class = sum_below (descriptor_count g) (λ d. if has_class g s l class d then 1 else 0)

abbrev pub counted_of : Geometry → State → Lists → ℕ → ℕ
counted_of g s l class = sum_below (descriptor_count g) (λ d. if has_class g s l class d then (anchor_for s d).count else 0)

-- what the active word of a processor heap and a class says
abbrev pub active_in : State → ℕ → ℕ → Option ActiveWord
active_in s heap class = active_of (s.word (name.Active heap class))

-- how many blocks an active word offers; how many all active words of the class do
abbrev pub offers : Option ActiveWord → ℕ
offers None = 0
offers (Some Null) = 0
offers (Some (Held d credits)) = credits + 1

abbrev pub offered_of : Geometry → State → ℕ → ℕ
offered_of g s class = sum_below g.heaps (λ heap. offers (active_in s heap class))

-- whether a block is a small one of the class
abbrev pub is_class : ℕ → Need → Bool
is_class class (Small c) = c == class
is_class class (Large units) = false
is_class class TooLarge = false

-- no blocks
abbrev pub no_blocks : ClassCount
no_blocks = record { blocks = 0; free = 0; reserved = 0; live = 0 }

-- the blocks of a class: those of its superblocks; of them those that the anchors count, those that the active words offer, and those that are live in the pool of the history; and these are all
pub record IsClassCount (c : ClosedFields) (l : Lists) (class : ℕ) (n : ClassCount) : Type 0 where
  pub blocks : n.blocks ≡ block_count_of class * superblocks_of c.geometry (closed_state c) l class
  pub free : n.free ≡ counted_of c.geometry (closed_state c) l class
  pub reserved : n.reserved ≡ offered_of c.geometry (closed_state c) class
  pub live : n.live ≡ count_by (λ block. is_class class block.need) (pool_of c.events)
  pub all : n.free + n.reserved + n.live ≡ n.blocks

-- how many units are free: their bits are 0
abbrev pub clear_units : Geometry → State → ℕ
clear_units g s = sum_below g.units (λ unit. if bit_at (s.word name.Units) unit == 0 then 1 else 0)

-- each class with its blocks, the frames on the stack of free frames, and the free units; there are lists that the heads and next words make, and by whichever these are the numbers
pub record IsCensus (c : ClosedFields) (census : Census) : Type 0 where
  pub lists : Lists
  pub listed : IsListed c.geometry (closed_state c).word lists
  pub classes : length census.per_class ≡ CLASSES
  pub each :
      (l : Lists) → IsListed c.geometry (closed_state c).word l → (class : ℕ) → class < CLASSES
      → IsClassCount c l class (slice_index_or census.per_class class no_blocks)
  pub frames : (l : Lists) → IsListed c.geometry (closed_state c).word l → census.free_frames ≡ length l.frames
  pub units : census.free_units ≡ clear_units c.geometry (closed_state c)

-- an active word names the descriptor
pub record IsActiveOf (g : Geometry) (s : State) (d : ℕ) : Type 0 where
  pub heap : ℕ
  pub class : ℕ
  pub credits : ℕ
  pub in_heap : heap < g.heaps
  pub in_class : class < CLASSES
  pub holds : active_in s heap class ≡ Some (Held d credits)

-- a descriptor is seen to have a superblock: its anchor says FULL or PARTIAL, or an active word names it
abbrev pub IsSeen : Geometry → State → ℕ → Type 0
IsSeen g s d = ((anchor_for s d).state ≡ phase.Full) ⊎ ((anchor_for s d).state ≡ phase.Partial) ⊎ IsActiveOf g s d
