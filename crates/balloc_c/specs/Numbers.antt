-- Which blocks a table has, by their numbers.
use Rattle.std.specs.Prelude.{ℕ, ◌≡◌, ◌≢◌, ◌+◌, ◌*◌, ◌%◌, ◌^◌, ◌==◌, if◌then◌else◌, Option, Some, None, List, [], ◌∷◌, count_by}
use Rattle.balloc_c.specs.declared.kept.Kept.{Kept}
use Rattle.balloc_c.specs.declared.table.Table.{Table}
use Rattle.balloc_c.specs.Kept.{seen}
use Rattle.balloc_c.specs.Slots.{IsVacant, age_at, block_at}

-- the number of the block in a slot
abbrev pub number_at : Table → ℕ → ℕ
number_at table index = age_at table.slots.items index * 2 ^ 32 + index % 2 ^ 32

-- the block that has this number, if any
abbrev pub named : Table → ℕ → Option Kept
named table number =
    if number_at table (number % 2 ^ 32) == number then seen (block_at table.slots.items (number % 2 ^ 32)) else None

-- from the one table to the other just these slots gave blocks away, each as often as it stands here. An age is a number of 32 bits
abbrev pub GaveAway : Table → List ℕ → Table → Type 0
GaveAway before slots after =
    (index : ℕ)
    → age_at after.slots.items index % 2 ^ 32 ≡ (age_at before.slots.items index + count_by (λ slot. slot == index) slots) % 2 ^ 32

-- the same blocks have the same numbers, and no slot gave one away
pub record KeepsNumbers (before after : Table) : Type 0 where
  pub all : (number : ℕ) → named after number ≡ named before number
  pub gave : GaveAway before [] after

-- the table names one block more, under a number that named none
pub record NamesOneMore (before : Table) (number : ℕ) (block : Kept) (after : Table) : Type 0 where
  pub new : named before number ≡ None
  pub here : named after number ≡ Some block
  pub others : (other : ℕ) → other ≢ number → named after other ≡ named before other
  pub gave : GaveAway before [] after

-- the table names one block less: its number names none, and its slot has given a block away once more
pub record NamesOneLess (before : Table) (number : ℕ) (after : Table) : Type 0 where
  pub gone : named after number ≡ None
  pub others : (other : ℕ) → other ≢ number → named after other ≡ named before other
  pub gave : GaveAway before (number % 2 ^ 32 ∷ []) after

-- the table's spare slot is there, and has no block
abbrev pub HasSpare : Table → Type 0
HasSpare table = IsVacant table.slots.items table.spare

-- a slot stands ready, and no block came or went: where one stood ready before, the table is the very same
pub record HasSlotReady (before after : Table) : Type 0 where
  pub keeps : KeepsNumbers before after
  pub spare : HasSpare after
  pub same : HasSpare before → after ≡ before
