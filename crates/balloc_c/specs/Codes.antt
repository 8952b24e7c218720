-- The numbers that C gets.
use Rattle.std.specs.Prelude.{ℕ, ◌-◌, ◌^◌, ℤ, pos, negsuc, Option, Some, None, Result, Ok, Err}
use Rattle.balloc_c.specs.declared.refusal.Refusal.{Refusal}
use Rattle.balloc_c.specs.declared.refusal.Refusal.TheVariants as refusal

-- the code of each cause: each has its own, and none is that of a call that was made
abbrev pub code_of : Refusal → ℤ
code_of refusal.Interrupted = pos 2
code_of refusal.Closed = negsuc 0
code_of refusal.InUse = negsuc 1
code_of refusal.BadNumbers = negsuc 2
code_of refusal.NoMemory = negsuc 3
code_of refusal.InCall = negsuc 4
code_of refusal.Idle = negsuc 5
code_of refusal.NoBlock = negsuc 6
code_of refusal.NoWord = negsuc 7
code_of refusal.NoShelf = negsuc 8
code_of refusal.Exhausted = negsuc 9
code_of refusal.TooLarge = negsuc 10
code_of refusal.Spent = negsuc 11
code_of refusal.ShelfFull = negsuc 12
code_of refusal.ShelfEmpty = negsuc 13
code_of refusal.ShelfMissed = negsuc 14
code_of refusal.Out = negsuc 15

-- a code as a number of 32 bits, which C reads as the code
abbrev pub word_of : ℤ → ℕ
word_of (pos n) = n
word_of (negsuc n) = 2 ^ 32 - 1 - n

-- the code of an outcome
abbrev pub code_in : {A : Type 0} → Result A Refusal → ℤ
code_in (Ok value) = pos 0
code_in (Err cause) = code_of cause

-- what lies where the value goes: the value, or what lay there before
abbrev pub value_in : {A : Type 0} → Result A Refusal → A → A
value_in (Ok value) before = value
value_in (Err cause) before = before

-- the code and the number of a call that is gone on with: a free that has ended has a code of its own, and no number
abbrev pub resumed_code : Result (Option ℕ) Refusal → ℤ
resumed_code (Ok (Some number)) = pos 0
resumed_code (Ok None) = pos 1
resumed_code (Err cause) = code_of cause

abbrev pub resumed_number : Result (Option ℕ) Refusal → ℕ → ℕ
resumed_number (Ok (Some number)) before = number
resumed_number (Ok None) before = before
resumed_number (Err cause) before = before

-- the code of an outcome as a number of 32 bits
abbrev pub word_in : {A : Type 0} → Result A Refusal → ℕ
word_in outcome = word_of (code_in outcome)
