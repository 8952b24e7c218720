-- Where a lane stands between two of its operations, and what an operation does to it.
use Rattle.std.specs.Prelude.{ℕ, suc, ◌+◌, ◌%◌, ◌^◌, ◌++◌, List, [], Bool, true, false, Option, None, map, replicate, if◌then◌else◌}
use Rattle.std.specs.List.{range_with_len, slice_index_or}
use Rattle.heap_geometry.specs.declared.need.Need.{Need}
use Rattle.heap_geometry.specs.declared.need.Need.TheVariants.{Small, Large, TooLarge}
use Rattle.heap_geometry.specs.Need.{need_of}
use Rattle.pool_model.specs.declared.event.Event.{Event}
use Rattle.pool_model.specs.declared.event.Event.TheVariants.{Write}
use Rattle.trace_text.specs.declared.limits.TheConstants.{REGISTERS}
use Rattle.trace_text.specs.declared.trace.Op.{Op}
use Rattle.lane_outcomes.specs.declared.registers.HeldBlock.{HeldBlock}
use Rattle.lane_outcomes.specs.declared.outcome.Outcome.{Outcome}
use Rattle.lane_outcomes.specs.declared.outcome.Outcome.TheVariants as outcome
use Rattle.trace_text.specs.Operations.{register_of}
use Rattle.lane_outcomes.specs.Deeds.{Deed, deed_of, registers_by}
use Rattle.lane_outcomes.specs.Deeds as deed

-- a lane between two operations: what each of its registers holds, its own events so far, how many of its small
-- allocations, resizes among them, were given a block or refused, and whether it has no turn left
pub record Position : Type 0 where
  pub registers : List (Option HeldBlock)
  pub done : List Event
  pub answered : ℕ
  pub spent : Bool

-- a lane before its first operation: empty registers, and no event
abbrev pub start : Position
start = record { registers = replicate REGISTERS None; done = []; answered = 0; spent = false }

-- what a register holds
abbrev pub held_in : List (Option HeldBlock) → ℕ → Option HeldBlock
held_in registers r = slice_index_or registers r None

-- the registers after an operation with its outcome
abbrev pub registers_after : List (Option HeldBlock) → Op → Outcome → List (Option HeldBlock)
registers_after registers operation result = registers_by registers (register_of operation) (deed_of operation result)

-- whether small blocks serve a need
abbrev pub is_small : Need → Bool
is_small (Small class) = true
is_small (Large units) = false
is_small TooLarge = false

-- how many small allocations were given a block or refused, after one operation more
abbrev pub answered_with : ℕ → Deed → ℕ
answered_with answered (deed.gives need v words place) = if is_small (need_of need) then suc answered else answered
answered_with answered (deed.replaces need words place) = if is_small (need_of need) then suc answered else answered
answered_with answered (deed.refuses need) = if is_small (need_of need) then suc answered else answered
answered_with answered done = answered

abbrev pub answered_after : ℕ → Op → Outcome → ℕ
answered_after answered operation result = answered_with answered (deed_of operation result)

-- whether the lane has no turn left, after one operation more
abbrev pub spent_after : Bool → Outcome → Bool
spent_after spent outcome.Spent = true
spent_after spent result = spent

-- the lane after an operation with its outcome and the events that it added
abbrev pub position_after : Position → Op → Outcome → List Event → Position
position_after position operation result piece =
    record {
      registers = registers_after position.registers operation result;
      done = position.done ++ piece;
      answered = answered_after position.answered operation result;
      spent = spent_after position.spent result;
    }

-- the writes of a block's usable words, the first word first, each with its value
abbrev pub writing : ℕ → ℕ → ℕ → (ℕ → ℕ) → List Event
writing caller place words value = map (λ i. Write caller place i (value i)) (range_with_len 0 words)

-- the writes that fill a block of so many usable words: word i with v + i
abbrev pub filling : ℕ → ℕ → ℕ → ℕ → List Event
filling caller place words v = writing caller place words (λ i. (v + i) % 2 ^ 64)
