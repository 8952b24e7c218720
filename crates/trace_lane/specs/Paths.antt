-- Blocks in hand as a register's, the moves of a lane's caller, and which operations have passed a gate.
use Rattle.std.specs.Prelude.{ℕ, ◌≡◌, ◌<◌, ◌-◌, ◌^◌, ◌∷◌, List, [], Option, map, min}
use Rattle.std.specs.Option.{option_map}
use Rattle.heap_geometry.specs.declared.need.Need.{Need}
use Rattle.heap_geometry.specs.Need.{usable_words}
use Rattle.sound_state.specs.Runs.{Move, begins, steps}
use Rattle.step_machine.specs.Cores.{CoreFields}
use Rattle.lane_engine.specs.Machines.{MovesCore}
use Rattle.lane_outcomes.specs.declared.registers.HeldBlock.{HeldBlock}

-- a block in hand as a register's: its place, its usable words and its need
abbrev pub held_by : {B : Type 0} → (B → ℕ) → (B → Need) → B → HeldBlock
held_by place_of need_of block = record { place = place_of block; words = usable_words (need_of block); need = need_of block }

-- registers that hold blocks in hand
abbrev pub held_blocks : {B : Type 0} → (B → ℕ) → (B → Need) → List (Option B) → List (Option HeldBlock)
held_blocks place_of need_of registers = map (λ register. option_map (held_by place_of need_of) register) registers

-- moves lead from one machine to another, one after the other
abbrev pub MovesLead : CoreFields → List Move → CoreFields → Type 0
MovesLead before [] after = after ≡ before
MovesLead before (move ∷ moves) after = (next : CoreFields) × MovesCore before move next × MovesLead next moves after

-- a move of this caller
abbrev pub IsBy : ℕ → Move → Type 0
IsBy caller (begins other call) = other ≡ caller
IsBy caller (steps other) = other ≡ caller

-- these first operations of a lane have passed a gate, the first as number 0; a number that doesn't fit is the last one that does
abbrev pub FirstPassed : (ℕ → ℕ → Type 0) → ℕ → ℕ → Type 0
FirstPassed passed lane count = (op : ℕ) → op < count → passed lane (min op (2 ^ 32 - 1))
