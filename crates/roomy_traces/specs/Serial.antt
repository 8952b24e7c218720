-- The report of a trace whose lanes are computed one after the other, each on its own, every allocation and every resize being given.
use Rattle.std.specs.Prelude.{ℕ, ◌%◌, ◌^◌, ◌∷◌, List, [], Option, Some, length, map, sum, sum_by}
use Rattle.heap_geometry.specs.Need.{need_of, usable_words}
use Rattle.trace_text.specs.declared.trace.Op.{Op}
use Rattle.trace_text.specs.declared.trace.Trace.{Trace}
use Rattle.lane_outcomes.specs.declared.outcome.Outcome.{Outcome}
use Rattle.lane_outcomes.specs.declared.outcome.Outcome.TheVariants as outcome
use Rattle.lane_outcomes.specs.LaneCounts.{as_one, as_words}
use Rattle.lane_outcomes.specs.Report.{report_with}
use Rattle.roomy_traces.specs.Roomy.{Doing, Filled, doing_of, fills, filled_in, frees, gives, held_by, keeps, moves_to, no_blocks, serial_after, sums}

-- what becomes of an operation whose register holds this; a place isn't printed, and 0 stands for it
abbrev pub outcome_by : Option Filled → Doing → Outcome
outcome_by held (gives need v) = outcome.Given (usable_words (need_of need)) 0
outcome_by held frees = outcome.Freed
outcome_by held (fills value) = outcome.Filled
outcome_by (Some filled) sums = outcome.Sum (sum filled.numbers % 2 ^ 64)
outcome_by (Some filled) keeps = outcome.Kept (length filled.numbers) 0
outcome_by held (moves_to need) = outcome.Resized (usable_words (need_of need)) 0
outcome_by held done = outcome.Skipped

abbrev pub serial_outcome : Option Filled → Op → Outcome
serial_outcome held operation = outcome_by held (doing_of held operation)

-- the outcomes of a lane from these registers on
abbrev pub serial_from : List (Option Filled) → List Op → List Outcome
serial_from registers [] = []
serial_from registers (operation ∷ operations) =
    serial_outcome (filled_in registers operation) operation ∷ serial_from (serial_after registers operation) operations

-- the outcomes of a lane
abbrev pub serial_outcomes : List Op → List Outcome
serial_outcomes operations = serial_from no_blocks operations

-- the registers behind these operations
abbrev pub serial_end : List (Option Filled) → List Op → List (Option Filled)
serial_end registers [] = registers
serial_end registers (operation ∷ operations) = serial_end (serial_after registers operation) operations

-- what the blocks count that the lanes hold at their ends
abbrev pub left_by : (ℕ → ℕ) → List (List Op) → ℕ
left_by f lanes = sum_by (λ operations. held_by f (serial_end no_blocks operations)) lanes

-- an outcome but for its place
abbrev pub without_place : Outcome → Outcome
without_place (outcome.Given words place) = outcome.Given words 0
without_place (outcome.Took words place need) = outcome.Took words 0 need
without_place (outcome.Kept words place) = outcome.Kept words 0
without_place (outcome.Resized words place) = outcome.Resized words 0
without_place result = result

-- the report of a trace, computed lane by lane
abbrev pub serial_report_of : Trace → List ℕ
serial_report_of trace =
    report_with trace (map serial_outcomes trace.lanes) (left_by as_one trace.lanes) (left_by as_words trace.lanes)
