-- The causes for which a text is refused, and what a reader answers.
use Rattle.std.specs.Prelude.{◌≡◌, ℕ, Result, Ok, Err}
use Rattle.trace_text.specs.declared.fault.Cause.{Cause}
use Rattle.trace_text.specs.declared.fault.Cause.TheVariants.{NotAscii, NoHeapLine, BadGeometry, UnknownOp, WrongFields, BadNumber, OutOfRange, TooManyLanes, NoEnd}
use Rattle.trace_text.specs.declared.fault.Stop.{Stop}
use Rattle.trace_text.specs.declared.fault.Stop.TheVariants as stops

-- the number of a cause
abbrev pub code_of : Cause → ℕ
code_of NotAscii = 1
code_of NoHeapLine = 2
code_of BadGeometry = 3
code_of UnknownOp = 4
code_of WrongFields = 5
code_of BadNumber = 6
code_of OutOfRange = 7
code_of TooManyLanes = 8
code_of NoEnd = 9

-- the first cause that comes ends the tests of a line
infixl 10 ◌>>=◌
abbrev pub ◌>>=◌ : {A B : Type 0} → Result A Cause → (A → Result B Cause) → Result B Cause
(Ok x) >>= f = f x
(Err cause) >>= f = Err cause

-- a test of the grammar answers what the grammar says, seen by view
abbrev pub TellsCause : {X Y : Type 0} → (X → Y) → Result X Cause → Result Y Cause → Type 0
TellsCause view (Ok x) said = said ≡ Ok (view x)
TellsCause view (Err cause) said = said ≡ Err cause

-- an early end is the grammar's cause, unless memory ran out
abbrev pub StopsReading : {Y : Type 0} → Stop → Result Y Cause → Type 0
StopsReading stops.OutOfMemory said = Unit {0}
StopsReading (stops.Because cause) said = said ≡ Err cause

-- what a function left is what the grammar says, unless it stopped
abbrev pub Leaves : {X : Type 0} → Result (Unit {0}) Stop → X → Result X Cause → Type 0
Leaves (Ok _) left said = said ≡ Ok left
Leaves (Err stop) left said = StopsReading stop said
