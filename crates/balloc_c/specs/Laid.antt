-- What a pass keeps to give it again: blocks that are home, and memory that is out as it is.
use Rattle.std.specs.Prelude.{ℕ, ◌≡◌, ◌≢◌, ◌<◌, ◌+◌, ◌%◌, ◌^◌, Option, Some, List, length, slice_index}
use Rattle.heap_geometry.specs.declared.limits.TheConstants.{CLASSES}
use Rattle.heap_geometry.specs.declared.need.Need.{Need}
use Rattle.heap_geometry.specs.declared.need.Need.TheVariants.{Small}
use Rattle.balloc_c.specs.declared.kept.Kept.{Kept}
use Rattle.balloc_c.specs.declared.kept.Kept.TheVariants as kept
use Rattle.balloc_c.specs.declared.laid.Laid.{Laid}
use Rattle.balloc_c.specs.declared.table.Slot.{Slot}
use Rattle.balloc_c.specs.declared.table.Table.{Table}
use Rattle.balloc_c.specs.Kept.{block_of}
use Rattle.balloc_c.specs.Numbers.{NamesOneMore, named, number_at}
use Rattle.balloc_c.specs.Slots.{after_at, block_at, next_at}

-- the number under which a block of a class is given first of these, and for how many more of it there is room
abbrev pub first_of : Laid → ℕ → ℕ
first_of l class = slice_index l.firsts class

abbrev pub room_of : Laid → ℕ → ℕ
room_of l class = slice_index l.rooms class

-- those that a slot's block is kept with, or would be: they are home, or their memory is out
abbrev pub like : Table → Kept → Laid
like t (kept.Home block) = t.resting
like t (kept.Out lent) = t.laid
like t (kept.Resting block) = t.resting
like t (kept.Laid memory) = t.laid

-- the slot that has it
abbrev pub slot_of : Laid → ℕ → ℕ
slot_of l class = first_of l class % 2 ^ 32

-- this is given first of its class, under its slot's number
pub record IsReadyIn (t : Table) (class : ℕ) (it : Kept) : Type 0 where
  pub serves : (block_of it).need ≡ Small class
  pub there : block_at t.slots.items (slot_of (like t it) class) ≡ Some it
  pub number : number_at t (slot_of (like t it) class) ≡ first_of (like t it) class

-- and for this need
pub record IsReady (t : Table) (need : Need) (it : Kept) : Type 0 where
  pub class : ℕ
  pub small : need ≡ Small class
  pub ready : IsReadyIn t class it

-- the pass has room for a slot's block, as it is
pub record HasRoomFor (t : Table) (slot : Option Kept) : Type 0 where
  pub it : Kept
  pub is : slot ≡ Some it
  pub class : ℕ
  pub small : (block_of it).need ≡ Small class
  pub some : 0 < room_of (like t it) class

-- a free of what this number names keeps it in its slot: there is room for one more of its class
pub record IsKeptAt (t : Table) (number index class : ℕ) (it : Kept) : Type 0 where
  pub within : index < length t.slots.items
  pub is : index ≡ number % 2 ^ 32
  pub here : block_at t.slots.items index ≡ Some it
  pub names : named t number ≡ Some it
  pub small : (block_of it).need ≡ Small class
  pub bound : class < CLASSES
  pub some : 0 < room_of (like t it) class

-- what was kept is given again, as this, under the number that was first, which named none: there is room for one more of its class, and the number that its slot has is the next
pub record IsGivenAgain (t : Table) (class number : ℕ) (it : Kept) (u : Table) : Type 0 where
  pub first : number ≡ first_of (like t it) class
  pub more : NamesOneMore t number it u
  pub left : room_of (like u it) class ≡ (room_of (like t it) class + 1) % 2 ^ 8
  pub next : first_of (like u it) class ≡ after_at t.slots.items (slot_of (like t it) class)

-- one slot has this now; the others have what they had, and name the slots that they named
pub record HasTurned (before : List Slot) (index : ℕ) (now : Kept) (after : List Slot) : Type 0 where
  pub count : length after ≡ length before
  pub here : block_at after index ≡ Some now
  pub others : (other : ℕ) → other ≢ index → block_at after other ≡ block_at before other
  pub nexts : (other : ℕ) → other ≢ index → next_at after other ≡ next_at before other
