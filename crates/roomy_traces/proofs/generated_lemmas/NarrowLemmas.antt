-- A lane that uses the first registers alone, and never resizes, never holds more blocks than those.
use Rattle.std.proofs.Common.{ℕ, zero, suc, ◌<◌, ◌≤◌, ◌≡◌, List, [], ◌∷◌, Option, Some, None, get_or, set, replicate, option_map, false, length, refl, ◌∙◌, arith}
use Rattle.std.proofs.lemmas.List.{get_or-set_other}
use Rattle.std.proofs.lemmas.List.Elements.{All-head, All-tail}
use Rattle.std.proofs.lemmas.List.Sums.{sum_by-cons}
use Rattle.std.specs.List.{All}
use Rattle.trace_text.specs.declared.limits.TheConstants.{REGISTERS}
use Rattle.trace_text.specs.declared.trace.Op.{Op}
use Rattle.trace_text.specs.declared.trace.Op.TheVariants.{Resize}
use Rattle.lane_outcomes.specs.LaneCounts.{as_one, count_with}
use Rattle.trace_text.specs.Operations.{register_of}
use Rattle.roomy_traces.specs.Roomy.{Doing, Filled, doing_of, moves, filled_in, serial_by, serial_after, held_by, held_during, most_held, no_blocks}
use Rattle.roomy_traces.specs.Roomy as does

-- the registers are empty from this one on
abbrev pub IsNarrow : ℕ → List (Option Filled) → Type 0
IsNarrow n registers = (k : ℕ) → n ≤ k → get_or registers k None ≡ None

-- an operation on one of the first registers that is no resize
abbrev pub IsLow : ℕ → Op → Type 0
IsLow n (Resize r need) = ⊥
IsLow n operation = register_of operation < n

-- what a register counts
abbrev weigh : Option Filled → ℕ
weigh held = count_with as_one (option_map (λ (filled : Filled). length filled.numbers) held)

weighs-one : (held : Option Filled) → weigh held ≤ 1
weighs-one None = omega arith
weighs-one (Some filled) = omega arith

weighs-none : (held : Option Filled) → held ≡ None → weigh held ≡ 0
weighs-none held none = rw none refl

-- registers that are empty from one on hold at most so many blocks
narrow-held : (n : ℕ) (registers : List (Option Filled)) → IsNarrow n registers → held_by as_one registers ≤ n
narrow-held n [] narrow = omega arith
narrow-held zero (held ∷ registers) narrow =
    omega (
      arith,
      sum_by-cons weigh held registers,
      weighs-none held (narrow 0 (omega arith)),
      narrow-held zero registers (λ k low. narrow (suc k) (omega arith)),
    )
narrow-held (suc n) (held ∷ registers) narrow =
    omega (
      arith,
      sum_by-cons weigh held registers,
      weighs-one held,
      narrow-held n registers (λ k low. narrow (suc k) (omega arith)),
    )

-- a write to one of the first registers leaves the others empty
set-narrow : (n : ℕ) (registers : List (Option Filled)) (r : ℕ) (now : Option Filled) → r < n → IsNarrow n registers → IsNarrow n (set registers r now)
set-narrow n registers r now low narrow k above =
    get_or-set_other registers r k now None (λ same. absurd (omega (arith, same))) ∙ narrow k above

step-narrow :
    (n : ℕ) (registers : List (Option Filled)) (r : ℕ) (held : Option Filled) (done : Doing) → r < n → IsNarrow n registers
    → IsNarrow n (serial_by registers r held done)
step-narrow n registers r held (does.gives need v) low narrow = set-narrow n registers r _ low narrow
step-narrow n registers r held does.frees low narrow = set-narrow n registers r None low narrow
step-narrow n registers r (Some filled) (does.fills value) low narrow = set-narrow n registers r _ low narrow
step-narrow n registers r (Some filled) (does.moves_to need) low narrow = set-narrow n registers r _ low narrow
step-narrow n registers r None done low narrow = narrow
step-narrow n registers r (Some filled) done low narrow = narrow

low-register : (n : ℕ) (operation : Op) → IsLow n operation → register_of operation < n
low-register n (Resize r need) low = absurd low
low-register n operation low = low

-- no block moves
never-moves : (n : ℕ) (held : Option Filled) (operation : Op) → IsLow n operation → moves held operation ≡ false
never-moves n held (Resize r need) low = absurd low
never-moves n None operation low = refl
never-moves n (Some filled) operation low = refl

during-narrow :
    (n : ℕ) (registers : List (Option Filled)) (operation : Op) → IsLow n operation → IsNarrow n registers → held_during registers operation ≤ n
during-narrow n registers operation low narrow =
    rw (never-moves n (filled_in registers operation) operation low) (omega (arith, narrow-held n registers narrow))

-- operations on the first n registers hold at most n blocks at any moment, where the others are empty
narrow-most :
    (n : ℕ) (registers : List (Option Filled)) (operations : List Op) → All (IsLow n) operations → IsNarrow n registers → most_held registers operations ≤ n
narrow-most n registers [] low narrow = narrow-held n registers narrow
narrow-most n registers (operation ∷ operations) low narrow =
    omega (
      arith,
      during-narrow n registers operation (All-head (IsLow n) operation operations low) narrow,
      narrow-most n (serial_after registers operation) operations (All-tail (IsLow n) operation operations low)
          (step-narrow n registers (register_of operation) (filled_in registers operation) (doing_of (filled_in registers operation) operation)
          (low-register n operation (All-head (IsLow n) operation operations low)) narrow),
    )

none-full : (many k : ℕ) → get_or (replicate {A = Option Filled} many None) k None ≡ None
none-full zero k = refl
none-full (suc many) zero = refl
none-full (suc many) (suc k) = none-full many k

-- operations on the first n registers hold at most n blocks at any moment from the start
pub lane-most : (n : ℕ) (operations : List Op) → All (IsLow n) operations → most_held no_blocks operations ≤ n
lane-most n operations low = narrow-most n no_blocks operations low (λ k above. none-full REGISTERS k)
