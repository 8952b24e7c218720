-- What holds of the traces along a text.
use Rattle.trace_text.specs.declared.stage.ReadingStage.{ReadingStage}
use Rattle.trace_text.specs.declared.stage.ReadingStage.TheVariants.{Before, Inside, Ended}
use Rattle.trace_text.specs.Traces.{IsTrace}

-- the trace so far is one that a text can name
abbrev pub HasTrace : ReadingStage → Type 0
HasTrace Before = Unit {0}
HasTrace (Inside trace) = IsTrace trace
HasTrace (Ended trace) = IsTrace trace
