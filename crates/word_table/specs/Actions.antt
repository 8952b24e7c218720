-- What an action does to its word.
use Rattle.std.specs.Prelude.{ℕ, Bool, true, ◌==◌, ◌≢◌, bit_and, if◌then◌else◌}
use Rattle.word_table.specs.declared.action.Action.{Action}
use Rattle.word_table.specs.declared.action.Action.TheVariants.{Load, Store, Cas, Swap, And}
use Rattle.word_table.specs.declared.action.Found.{Found}
use Rattle.word_table.specs.declared.name.WordName.{WordName}

-- the word that an action is on
abbrev pub name_of : Action → WordName
name_of (Load name) = name
name_of (Store name new) = name
name_of (Cas name expected new) = name
name_of (Swap name new) = name
name_of (And name mask) = name

-- the word after an action
abbrev pub after_action : Action → ℕ → ℕ
after_action (Load name) word = word
after_action (Store name new) word = new
after_action (Cas name expected new) word = if word == expected then new else word
after_action (Swap name new) word = new
after_action (And name mask) word = bit_and word mask

-- whether an action is won: an exchange where the word is the expected one, any other always
abbrev pub is_won : Action → ℕ → Bool
is_won (Load name) word = true
is_won (Store name new) word = true
is_won (Cas name expected new) word = word == expected
is_won (Swap name new) word = true
is_won (And name mask) word = true

-- an exchange whose expected word differs
abbrev pub IsLost : Action → ℕ → Type 0
IsLost (Load name) word = ⊥
IsLost (Store name new) word = ⊥
IsLost (Cas name expected new) word = word ≢ expected
IsLost (Swap name new) word = ⊥
IsLost (And name mask) word = ⊥

-- what an action finds: the word before it, and whether it was won
abbrev pub found_by : Action → ℕ → Found
found_by action word = record { value = word; won = is_won action word }
