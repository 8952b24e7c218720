-- What a text is read as.
use Rattle.std.specs.Prelude.{◌≡◌, ℕ, ◌+◌, if◌then◌else◌, List, [], ◌∷◌, map, Option, Some, None, Result, Ok, Err}
use Rattle.trace_text.specs.declared.fault.Cause.{Cause}
use Rattle.trace_text.specs.declared.fault.Cause.TheVariants.{NoHeapLine, NoEnd}
use Rattle.trace_text.specs.declared.fault.Stop.{Stop}
use Rattle.trace_text.specs.declared.fault.Stop.TheVariants as stops
use Rattle.trace_text.specs.declared.fault.TraceFault.{TraceFault}
use Rattle.trace_text.specs.declared.fault.TraceFault.TheVariants.{OutOfMemory, Line}
use Rattle.trace_text.specs.declared.stage.ReadingStage.{ReadingStage}
use Rattle.trace_text.specs.declared.stage.ReadingStage.TheVariants.{Before, Inside, Ended}
use Rattle.trace_text.specs.declared.trace.Trace.{Trace}
use Rattle.trace_text.specs.declared.trace.Version.{Version}
use Rattle.trace_text.specs.declared.trace.Version.TheVariants.{Two}
use Rattle.trace_text.specs.Causes.{code_of}
use Rattle.trace_text.specs.Lines.{lines_of, fields_of, is_comment}
use Rattle.trace_text.specs.Said.{after_line}

-- a text is read as a trace, or refused at a line for a cause
pub data Reading : Type 0 where
  Read : (trace : Trace) → Reading
  Refused : (line : ℕ) (cause : Cause) → Reading

-- the end of the text, with the number of the line that would come next
unfoldable pub at_end : ℕ → ReadingStage → Reading
at_end number Before = Refused number NoHeapLine
at_end number (Inside trace) = Refused number NoEnd
at_end number (Ended trace) = Read trace

-- a line's cause, or what comes next
abbrev pub continued : ℕ → Result ReadingStage Cause → (ReadingStage → Reading) → Reading
continued number (Ok stage) next = next stage
continued number (Err cause) next = Refused number cause

-- the lines from one on, of which the first has this number
unfoldable pub reading_from : Version → List (List ℕ) → ℕ → ReadingStage → Reading
reading_from known [] number stage = at_end number stage
reading_from known (line ∷ lines) number stage =
    continued number (after_line known stage line) (λ next. reading_from known lines (number + 1) next)

-- what a text is read as where the versions up to this one are known
unfoldable pub reading_up_to : Version → List ℕ → Reading
reading_up_to known text = reading_from known (lines_of text) 1 Before

-- what a text is read as
unfoldable pub reading_of : List ℕ → Reading
reading_of text = reading_up_to Two text

-- the first field of the first line that is not passed over, of lines by their fields
unfoldable pub first_word_in : List (List (List ℕ)) → Option (List ℕ)
first_word_in [] = None
first_word_in ([] ∷ lines) = first_word_in lines
first_word_in ((word ∷ fields) ∷ lines) = if is_comment word then first_word_in lines else Some word

-- the word that a text begins with
abbrev pub first_word : List ℕ → Option (List ℕ)
first_word text = first_word_in (map fields_of (lines_of text))

-- what a stop at a line is told as
abbrev pub fault_of : ℕ → Stop → TraceFault
fault_of number stops.OutOfMemory = OutOfMemory
fault_of number (stops.Because cause) = Line number (code_of cause)

-- a text is refused at this line, for the cause with this number
abbrev pub IsRefused : ℕ → ℕ → Reading → Type 0
IsRefused line code (Read trace) = ⊥
IsRefused line code (Refused number cause) = (line ≡ number) × (code ≡ code_of cause)

-- the reader answers what the text is read as, unless memory ran out
abbrev pub AnswersReading : Result Trace TraceFault → Reading → Type 0
AnswersReading (Ok trace) reading = reading ≡ Read trace
AnswersReading (Err OutOfMemory) reading = Unit {0}
AnswersReading (Err (Line number code)) reading = IsRefused number code reading
