-- What is so of a pass for C between calls. The words of some of its blocks may be out with C.
use Rattle.std.specs.Prelude.{ℕ, ◌≡◌, ◌+◌, ◌%◌, ◌++◌, Option, Some, None, List, [], length}
use Rattle.errand_steps.specs.Begins.{IsBusy, IsIdle}
use Rattle.errand_steps.specs.Calls.{Call}
use Rattle.heap_geometry.specs.declared.need.Need.{Need}
use Rattle.heap_geometry.specs.Need.{usable_words}
use Rattle.plain_words.specs.declared.plain.PlainWords.{PlainWords}
use Rattle.plain_words.specs.Owned.{Lies}
use Rattle.plain_words.specs.Places.{AllHere}
use Rattle.live_heap.specs.declared.block.Block.{Block}
use Rattle.live_heap.specs.declared.pass.Pass.{Pass}
use Rattle.live_heap.specs.Answers.{IsTried}
use Rattle.live_heap.specs.Calls.{IsCalling}
use Rattle.live_heap.specs.Heaps.{HeapFields}
use Rattle.live_heap.specs.Holdings.{HoldsExactly}
use Rattle.live_heap.specs.Lending.{with_lent}
use Rattle.live_heap.specs.Memory.{IsTaken}
use Rattle.live_heap.specs.Passes.{IsHome, IsOf, view}
use Rattle.block_cache.specs.declared.cache.Cache.{Cache}
use Rattle.block_cache.specs.Accounts.{Began}
use Rattle.block_cache.specs.Caches.{IsCache, cached_in}
use Rattle.balloc_c.specs.declared.kept.Kept.{Kept}
use Rattle.balloc_c.specs.declared.kept.Kept.TheVariants as kept
use Rattle.balloc_c.specs.declared.table.Slot.{Slot}
use Rattle.balloc_c.specs.Slots.{block_at, lots_of}

-- the pass as it would stand had it never taken words out
abbrev pub at_home : Pass → Pass
at_home p = record {
  seat = record p.seat { me = (with_lent (view p) [], []) };
  errand = p.errand;
  out = 0;
}

-- an allocation or a free is interrupted that is about none of these blocks, and they were all others that the caller had
pub record HasAllInCall (h : HeapFields) (p : Pass) (blocks : List Block) : Type 0 where
  pub first : Pass
  pub of : IsOf h first
  pub call : Call
  pub steps : ℕ
  pub calling : IsCalling first call steps p
  pub tried : IsTried call
  pub had : List Block
  pub began : Began call blocks had
  pub exact : HoldsExactly (at_home first) had

-- these are all blocks that the caller owns, each once, wherever their words are; while a call is under way, all but the one that the call is about
pub record HasAll (h : HeapFields) (p : Pass) (blocks : List Block) : Type 0 where
  pub at_rest : IsIdle p.errand → HoldsExactly (at_home p) blocks
  pub in_call : IsBusy p.errand → HasAllInCall h p blocks

-- words are those of the block at the place, that serves the need, all of them, as plain memory; some may never have been written
pub record IsRoomAt (h : HeapFields) (place : ℕ) (need : Need) (words : PlainWords) : Type 0 where
  pub at : words.at ≡ h.region.at
  pub first : words.first ≡ place + 1
  pub long : length words.places ≡ usable_words need
  pub here : AllHere words.places

-- the words of the block are out, the first of them has an address, and that is a multiple of 16
abbrev pub IsOutAt : HeapFields → Pass → ℕ → Need → Type 0
IsOutAt h p place need = IsTaken p place need × Lies h.region.at (place + 1) × (place % 2 ≡ 0)

-- the words of a slot's block are home, where it rests too, or they are out, with C or with the pass
abbrev pub Stands : HeapFields → Pass → Option Kept → Type 0
Stands h p None = Unit {0}
Stands h p (Some (kept.Home block)) = IsHome p block.place
Stands h p (Some (kept.Out lent)) = IsOutAt h p lent.place lent.need
Stands h p (Some (kept.Resting block)) = IsHome p block.place
Stands h p (Some (kept.Laid memory)) =
    IsOutAt h p memory.block.place memory.block.need × IsRoomAt h memory.block.place memory.block.need memory.words

-- the cache is one in front of the heap; the blocks in slots and those in magazines are all that its caller owns, each once, but for the one that a call under way is about; and the words of each stand as its slot says
pub record Tends (h : HeapFields) (c : Cache) (slots : List Slot) : Type 0 where
  pub cache : IsCache h c
  pub all : HasAll h c.pass (lots_of slots ++ cached_in c)
  pub stand : (index : ℕ) → Stands h c.pass (block_at slots index)
