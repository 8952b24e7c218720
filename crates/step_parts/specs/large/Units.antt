-- The units of a heap as the bits of a word. A bit is 1 where its unit is taken.
use Rattle.std.specs.Prelude.{ℕ, Bool, ◌+◌, ◌-◌, ◌*◌, ◌^◌, ◌<◌, ◌≤◌, ◌≡◌, ◌==◌, nat_le, bit_and, bit_or, if◌then◌else◌, Option, Some, None}
use Rattle.std.specs.Int.{bit_at}
use Rattle.heap_geometry.specs.Need.{least}
use Rattle.packed_words.specs.Fields.{bits_at}

-- a unit is one of the run
pub record IsInRun (first units i : ℕ) : Type 0 where
  pub from : first ≤ i
  pub below : i < first + units

-- no unit of the run is taken
abbrev pub IsFreeRun : ℕ → ℕ → ℕ → Type 0
IsFreeRun bits first units = (i : ℕ) → IsInRun first units i → bit_at bits i ≡ 0

-- of the runs of n units among the first ones, the lowest that is free
pub record IsLowestRun (bits units n first : ℕ) : Type 0 where
  pub within : first + n ≤ units
  pub free : IsFreeRun bits first n
  pub lowest : (u : ℕ) → u < first → ¬ IsFreeRun bits u n

-- the lowest free run of n units among the first ones, or nothing, where none of them is free
abbrev pub IsFirstRun : ℕ → ℕ → ℕ → Option ℕ → Type 0
IsFirstRun bits units n None = (u : ℕ) → u + n ≤ units → ¬ IsFreeRun bits u n
IsFirstRun bits units n (Some first) = IsLowestRun bits units n first

-- whether no unit of the run is taken: the number that its bits make is 0
abbrev pub is_free : ℕ → ℕ → ℕ → Bool
is_free bits first units = bits_at first units bits == 0

-- of the units from which n units end among the first ones, the least that begins a free run; the unit behind them where none does
abbrev pub lowest_free : ℕ → ℕ → ℕ → ℕ
lowest_free bits units n = least (units + 1 - n) (λ first. is_free bits first n)

-- the first unit of the lowest free run of n units among the first ones, where there is one
unfoldable pub first_run_of : ℕ → ℕ → ℕ → Option ℕ
first_run_of bits units n =
    if nat_le (lowest_free bits units n + n) units then Some (lowest_free bits units n) else None

-- the word in which the units of a run are taken, and no others
unfoldable pub run_bits : ℕ → ℕ → ℕ
run_bits first units = (2 ^ units - 1) * 2 ^ first

-- the word in which all units are taken but those of a run
abbrev pub other_bits : ℕ → ℕ → ℕ
other_bits first units = (2 ^ 64 - 1) - run_bits first units

-- the word with the units of a run taken
abbrev pub with_run : ℕ → ℕ → ℕ → ℕ
with_run bits first units = bit_or bits (run_bits first units)

-- the word with the units of a run given back
abbrev pub without_run : ℕ → ℕ → ℕ → ℕ
without_run bits first units = bit_and bits (other_bits first units)
