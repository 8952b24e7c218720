-- What a run of the program came to.
use Rattle.std.specs.Prelude.{ℕ, ◌≡◌, ◌⊎◌, ⊤, List, Option, None, Result}
use Rattle.edge_io.specs.declared.faults.Failed.{Failed}
use Rattle.edge_io.specs.declared.real.StdSink.{StdSink}
use Rattle.edge_io.specs.declared.real.StdSource.{StdSource}
use Rattle.edge_io.specs.Faults.{faults_after}
use Rattle.edge_io.specs.Real.{read_faults, write_faults}
use Rattle.command_line.specs.declared.status.TheConstants.{OUT_OF_MEMORY, USAGE}
use Rattle.trace_commands.specs.declared.closing.Closing.{Closing}
use Rattle.trace_commands.specs.Ended.{HasEnded}

-- how a source over a reader of std, and a sink over a writer, answer their calls: they tell no bytes, and count each failure
abbrev pub SourceGave : {R : Type 0} → StdSource R → ℕ → Result ℕ Failed → StdSource R → Type 0
SourceGave before room outcome after = read_faults after ≡ faults_after (read_faults before) outcome

abbrev pub SinkWrote : {W : Type 0} → StdSink W → List ℕ → Result ℕ Failed → StdSink W → Type 0
SinkWrote before piece outcome after = write_faults after ≡ faults_after (write_faults before) outcome

-- there are words, edges over a reader and a writer that had not failed before, and a heap or none that was left, of which all clauses of `run` hold with this status
pub record HasRunTo (R W : Type 0) (status : ℕ) : Type 0 where
  pub words : List (List ℕ)
  pub source_before : StdSource R
  pub source_after : StdSource R
  pub sink_before : StdSink W
  pub sink_after : StdSink W
  pub closed : Option Closing
  pub no_read_fault : read_faults source_before ≡ 0
  pub no_write_fault : write_faults sink_before ≡ 0
  pub ended :
      HasEnded words (λ lane op. ⊤) (λ source. None) SourceGave read_faults source_before source_after (λ sink. None) SinkWrote write_faults
      sink_before sink_after status closed

-- the program's words could not be taken, and the status tells why; or it was run on words
abbrev pub IsProgramsStatus : (R W : Type 0) → ℕ → Type 0
IsProgramsStatus R W status = ((status ≡ OUT_OF_MEMORY) ⊎ (status ≡ USAGE)) ⊎ HasRunTo R W status
