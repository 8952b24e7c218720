-- A table has no slot to spare but one.
use Rattle.std.specs.Prelude.{ℕ, ◌≡◌, ◌≢◌, ◌<◌, ◌≤◌, ◌+◌, ◌^◌, List, [], ◌∷◌, length}
use Rattle.balloc_c.specs.declared.table.Slot.{Slot}
use Rattle.balloc_c.specs.declared.table.Table.{Table}
use Rattle.balloc_c.specs.declared.table.TheConstants.{NONE}
use Rattle.balloc_c.specs.Slots.{IsVacant, blocks_of, next_at}

-- the number is none of these
abbrev pub IsNoneOf : ℕ → List ℕ → Type 0
IsNoneOf n [] = Unit {0}
IsNoneOf n (x ∷ xs) = (x ≢ n) × IsNoneOf n xs

-- these are the slots that stand ready, from the spare one on: each has no block, and names the one that was spare before it
abbrev pub AreSpare : List Slot → ℕ → List ℕ → Type 0
AreSpare slots spare [] = spare ≡ NONE
AreSpare slots spare (index ∷ rest) = (spare ≡ index) × IsVacant slots index × IsNoneOf index rest × AreSpare slots (next_at slots index) rest

-- each slot has a block or stands ready
pub record IsPacked (table : Table) : Type 0 where
  pub spares : List ℕ
  pub spare : AreSpare table.slots.items table.spare spares
  pub all : length table.slots.items ≤ length (blocks_of table.slots.items) + length spares
  pub few : length table.slots.items < 2 ^ 32

-- a table has more slots than before only where each had a block: then they are at most one more than the blocks that it had
abbrev pub HasOneMoreAtMost : Table → Table → Type 0
HasOneMoreAtMost before after =
    length before.slots.items < length after.slots.items → length after.slots.items ≤ length (blocks_of before.slots.items) + 1

-- a slot is the spare one now, and names the one that was
pub record IsLinked (before : Table) (index : ℕ) (after : Table) : Type 0 where
  pub spare : after.spare ≡ index
  pub here : next_at after.slots.items index ≡ before.spare
  pub others : (other : ℕ) → other ≢ index → next_at after.slots.items other ≡ next_at before.slots.items other
