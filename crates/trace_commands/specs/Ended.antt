-- All that the clauses of `run` say of one run.
use Rattle.std.specs.Prelude.{ℕ, ◌≡◌, ◌≢◌, ◌⊎◌, false, List, Option, None, Result}
use Rattle.edge_io.specs.declared.faults.Failed.{Failed}
use Rattle.edge_io.specs.Faults.{FaultsRose}
use Rattle.trace_text.specs.declared.limits.TheConstants.{MAX_INPUT}
use Rattle.command_line.specs.Command.{IsCommand, IsCommandLine, has_input}
use Rattle.command_line.specs.Input.{TakesMore, TakesSome}
use Rattle.command_line.specs.declared.command.Command.{Command}
use Rattle.command_line.specs.declared.status.TheConstants.{OUT_OF_MEMORY, READ_FAULT, REFUSED, REPORTED, TOO_MANY, USAGE, WRITE_FAULT}
use Rattle.trace_commands.specs.declared.closing.Closing.{Closing}
use Rattle.trace_commands.specs.Answers.{IsRefusal, IsReport}
use Rattle.trace_commands.specs.Runs.{AsksInput, IsAnswer, IsStatus, ReadsInVain, Writes, WritesPart}

-- a run on these words, between edges that it led from one state to another, where operations passed the gate so, ended at this status and left this heap: the clauses of `run` (src/run.rt), each by its name
pub record HasEnded (words : List (List ℕ)) (passed : ℕ → ℕ → Type 0) {S : Type 0} (left : S → Option (List ℕ)) (gave : S → ℕ → Result ℕ Failed → S → Type 0) (source_faults : S → ℕ) (source_before source_after : S) {K : Type 0} (holds : K → Option (List ℕ)) (wrote : K → List ℕ → Result ℕ Failed → K → Type 0) (sink_faults : K → ℕ) (sink_before sink_after : K) (status : ℕ) (closed : Option Closing) : Type 0 where
  pub known : IsStatus status
  pub usage : status ≡ USAGE → ¬ IsCommand words
  pub unknown : (¬ IsCommand words) → (status ≡ USAGE) ⊎ (status ≡ OUT_OF_MEMORY)
  pub untouched : (¬ IsCommand words) → (source_after ≡ source_before) × (sink_after ≡ sink_before)
  pub unread : (command : Command) → IsCommandLine command words → has_input command ≡ false → source_after ≡ source_before
  pub silent :
      status ≢ REPORTED → status ≢ REFUSED → status ≢ WRITE_FAULT → (sink_after ≡ sink_before) × (closed ≡ None)
  pub read_fault :
      status ≡ READ_FAULT → AsksInput words × FaultsRose (source_faults source_before) (source_faults source_after)
      × TakesSome left gave MAX_INPUT source_before source_after
  pub too_many : status ≡ TOO_MANY → AsksInput words × TakesMore left gave MAX_INPUT source_before source_after
  pub in_vain : status ≡ OUT_OF_MEMORY → ReadsInVain left gave source_before source_after
  pub refused :
      status ≡ REFUSED → Writes words left gave source_before source_after holds wrote sink_before sink_after IsRefusal closed
  pub write_fault :
      status ≡ WRITE_FAULT → FaultsRose (sink_faults sink_before) (sink_faults sink_after)
      × (WritesPart words left gave source_before source_after holds wrote sink_before sink_after (IsReport passed) closed
      ⊎ WritesPart words left gave source_before source_after holds wrote sink_before sink_after IsRefusal closed)
  pub reported :
      status ≡ REPORTED → Writes words left gave source_before source_after holds wrote sink_before sink_after (IsReport passed) closed
  pub complete :
      (command : Command) → IsCommandLine command words → (¬ FaultsRose (source_faults source_before) (source_faults source_after))
      → (¬ FaultsRose (sink_faults sink_before) (sink_faults sink_after)) → IsAnswer (has_input command) status
