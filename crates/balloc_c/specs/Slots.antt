-- The blocks in the slots of a table.
use Rattle.std.specs.Prelude.{ℕ, ◌≡◌, ◌≢◌, ◌<◌, ◌+◌, ◌%◌, ◌^◌, Option, Some, None, List, [], ◌∷◌, length, map, slice_index_or, slice_set}
use Rattle.live_heap.specs.declared.block.Block.{Block}
use Rattle.balloc_c.specs.declared.kept.Kept.{Kept}
use Rattle.balloc_c.specs.declared.kept.Content.TheVariants as content
use Rattle.balloc_c.specs.Kept.{block_of, content_of, kept_in}
use Rattle.balloc_c.specs.declared.table.Slot.{Slot}

-- a block, or none, before others
abbrev pub with_block : Option Kept → List Kept → List Kept
with_block None blocks = blocks
with_block (Some block) blocks = block ∷ blocks

abbrev pub list_of : Option Kept → List Kept
list_of block = with_block block []

-- the block in a slot, if there is one
abbrev pub block_in : Slot → Option Kept
block_in slot = kept_in slot.content

-- the blocks in slots
abbrev pub blocks_of : List Slot → List Kept
blocks_of [] = []
blocks_of (slot ∷ slots) = with_block (block_in slot) (blocks_of slots)

-- and the same as tokens, wherever their words are
abbrev pub lots_of : List Slot → List Block
lots_of slots = map block_of (blocks_of slots)

-- a slot that there is not
abbrev pub no_slot : Slot
no_slot = record { content = content.Vacant; age = 0; next = 0; after = 0 }

-- the block in a slot, and how often the slot has given a block away
abbrev pub block_at : List Slot → ℕ → Option Kept
block_at slots index = block_in (slice_index_or slots index no_slot)

abbrev pub age_at : List Slot → ℕ → ℕ
age_at slots index = (slice_index_or slots index no_slot).age

-- the slot that was the spare one before it
abbrev pub next_at : List Slot → ℕ → ℕ
next_at slots index = (slice_index_or slots index no_slot).next

-- the number under which one of its class is given after the block that is kept in it
abbrev pub after_at : List Slot → ℕ → ℕ
after_at slots index = (slice_index_or slots index no_slot).after

-- the slot is there, and has no block
abbrev pub IsVacant : List Slot → ℕ → Type 0
IsVacant slots index = (index < length slots) × (block_at slots index ≡ None)

-- the slots with another block, or none, in one of them
abbrev pub set_block : List Slot → ℕ → Option Kept → List Slot
set_block slots index block = slice_set slots index (record (slice_index_or slots index no_slot) { content = content_of block })

-- one slot has given a block away once more
pub record HasAged (before : List Slot) (index : ℕ) (after : List Slot) : Type 0 where
  pub count : length after ≡ length before
  pub blocks : blocks_of after ≡ blocks_of before
  pub same : (other : ℕ) → block_at after other ≡ block_at before other
  pub here : age_at after index ≡ (age_at before index + 1) % 2 ^ 32
  pub others : (other : ℕ) → other ≢ index → age_at after other ≡ age_at before other
