-- Which calls a lane begins: those of its operations with their outcomes, in the script's order.
use Rattle.std.specs.Prelude.{ℕ, ◌≡◌, ◌+◌, ◌-◌, ◌*◌, ◌∷◌, ◌++◌, List, [], Option, Some, None, length, min}
use Rattle.heap_geometry.specs.Need.{IsNeed}
use Rattle.errand_steps.specs.Calls.{Call}
use Rattle.sound_laws.specs.events.Made.{Made}
use Rattle.trace_text.specs.declared.trace.Op.{Op}
use Rattle.trace_text.specs.Operations.{register_of}
use Rattle.lane_outcomes.specs.declared.registers.HeldBlock.{HeldBlock}
use Rattle.lane_outcomes.specs.declared.outcome.Outcome.{Outcome}
use Rattle.lane_outcomes.specs.Lane.{held_in, registers_after}
use Rattle.trace_lane.specs.declared.work.Work.{Work}
use Rattle.trace_lane.specs.Made.{MadeFor, calls_made}
use Rattle.trace_lane.specs.Works.{calls_bound, work_begun}

-- the block of a register, if it holds one, is of a need that there are blocks of
abbrev pub IsOfNeed : Option HeldBlock → Type 0
IsOfNeed None = Unit {0}
IsOfNeed (Some held) = IsNeed held.need

-- the calls of an operation with its outcome, where the registers held these blocks before it: those that it makes, without their answers
abbrev pub CallsOf : List (Option HeldBlock) → Op → Outcome → List Call → Type 0
CallsOf registers operation result calls =
    IsOfNeed (held_in registers (register_of operation))
    × (made : List Made) × MadeFor (held_in registers (register_of operation)) operation result made × (calls ≡ calls_made made)

-- the calls of operations with these outcomes, from these registers on
abbrev pub Scripts : List (Option HeldBlock) → List Op → List Outcome → List Call → Type 0
Scripts registers operations [] calls = calls ≡ []
Scripts registers [] (result ∷ results) calls = ⊥
Scripts registers (operation ∷ operations) (result ∷ results) calls =
    (first : List Call) × (rest : List Call) × (calls ≡ first ++ rest) × CallsOf registers operation result first
    × Scripts (registers_after registers operation result) operations results rest

-- more than the calls that an operation begins
abbrev pub begun_bound : ℕ
begun_bound = 3 * calls_bound + 1

-- how much of its script a lane has left, in a number that falls as it goes on
abbrev pub script_left : {B : Type 0} → List Op → List Outcome → Option (Work B) → ℕ
script_left operations results at = begun_bound * (length operations - length results) - work_begun at

-- how many operations a lane has begun
abbrev pub begun_count : {B : Type 0} → List Outcome → Option (Work B) → ℕ
begun_count results at = length results + min (work_begun at) 1
