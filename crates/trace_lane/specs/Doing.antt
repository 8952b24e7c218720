-- How far a lane is: which calls it has ended, each with its answer, and which one is under way. Of callers and events nothing is said here.
use Rattle.std.specs.Prelude.{◌≡◌, ◌≤◌, ◌∷◌, ◌++◌, List, [], Option, Some, None, length, drop, replicate}
use Rattle.errand_steps.specs.Calls.{Call}
use Rattle.sound_laws.specs.events.Made.{Made}
use Rattle.trace_text.specs.declared.limits.TheConstants.{REGISTERS}
use Rattle.trace_text.specs.declared.trace.Op.{Op}
use Rattle.trace_text.specs.Operations.{register_of}
use Rattle.lane_outcomes.specs.declared.registers.HeldBlock.{HeldBlock}
use Rattle.lane_outcomes.specs.declared.outcome.Outcome.{Outcome}
use Rattle.lane_outcomes.specs.Lane.{held_in, registers_after}
use Rattle.trace_lane.specs.Made.{Asks}
use Rattle.trace_lane.specs.Made.{MadeFor, registers_from}
use Rattle.trace_lane.specs.Works.{IsServing, call_in, request_in}
use Rattle.trace_lane.specs.declared.work.Work.{Work}

-- the operation has ended these calls, where the registers held `before` when it began and hold `registers` now: those of its requests that are answered, and of the one under way
abbrev pub DoingOf : List (Option HeldBlock) → List (Option HeldBlock) → Op → Option (Work HeldBlock) → List Made → Type 0
DoingOf before registers operation None made = ⊥
DoingOf before registers operation (Some at) made =
    (asked : List Made) × (done : List Made) × (made ≡ asked ++ done) × Asks before registers operation (request_in at) asked × IsServing at done

-- where a lane is in its operation: none is under way between two of them, else the first one of those that are left
abbrev pub DoingIn : List (Option HeldBlock) → List (Option HeldBlock) → List Op → Option (Work HeldBlock) → List Made → Option Call → Type 0
DoingIn before registers operations None made under = (registers ≡ before) × (made ≡ []) × (under ≡ None)
DoingIn before registers operations (Some at) made under =
    (operation : Op) × (rest : List Op) × (operations ≡ operation ∷ rest) × DoingOf before registers operation (Some at) made
    × (under ≡ Some (call_in at))

-- operations with these outcomes have ended these calls, from these registers on
abbrev pub AllMadeFor : List (Option HeldBlock) → List Op → List Outcome → List Made → Type 0
AllMadeFor registers operations [] made = made ≡ []
AllMadeFor registers [] (result ∷ results) made = ⊥
AllMadeFor registers (operation ∷ operations) (result ∷ results) made =
    (first : List Made) × (rest : List Made) × (made ≡ first ++ rest)
    × MadeFor (held_in registers (register_of operation)) operation result first
    × AllMadeFor (registers_after registers operation result) operations results rest

-- a lane of these operations, with these outcomes so far, these registers and this request under way or none, has ended these calls since it was new, and this one is under way
pub record IsMaking (operations : List Op) (registers : List (Option HeldBlock)) (results : List Outcome) (at : Option (Work HeldBlock)) (made : List Made)
    (under : Option Call) : Type 0 where
  pub within : length results ≤ length operations
  pub past : List Made
  pub present : List Made
  pub all : made ≡ past ++ present
  pub ended : AllMadeFor (replicate REGISTERS None) operations results past
  pub doing : DoingIn (registers_from (replicate REGISTERS None) operations results) registers (drop (length results) operations) at present under
