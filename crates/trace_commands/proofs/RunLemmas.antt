-- How runs end.
use Rattle.std.proofs.Common.{◌≡◌, Bool, true, false, lit<, refl}
use Rattle.trace_commands.specs.Runs.{IsAnswer, IsStatus}
use Rattle.command_line.specs.Statuses.{stop_status}
use Rattle.command_line.specs.declared.status.TheConstants.{REPORTED, REFUSED, OUT_OF_MEMORY}
use Rattle.command_line.specs.declared.stop.Stop.{Stop}
use Rattle.command_line.specs.declared.stop.Stop.TheVariants.{Fault, TooMany, OutOfMemory}

-- a run that stops has one of the statuses
pub known-stop : (stop : Stop) → IsStatus (stop_status stop)
known-stop Fault = (3, lit< tt, refl)
known-stop TooMany = (6, lit< tt, refl)
known-stop OutOfMemory = (5, lit< tt, refl)

-- a text that is written whole is an answer to each command, and a refusal to one with an input
pub reported-answers : (input : Bool) → IsAnswer input REPORTED
reported-answers true = (0, lit< tt, refl)
reported-answers false = (0, lit< tt, refl)

pub refused-answers : (input : Bool) → input ≡ true → IsAnswer input REFUSED
refused-answers input is = rw is (1, lit< tt, refl)

-- want of memory is an answer to each command, and an input that is too long to one with an input
pub memory-answers : (input : Bool) → IsAnswer input OUT_OF_MEMORY
memory-answers true = (3, lit< tt, refl)
memory-answers false = (1, lit< tt, refl)

pub stop-answers : (input : Bool) (stop : Stop) → (stop ≡ Fault → ⊥) → (stop ≡ TooMany → input ≡ true) → IsAnswer input (stop_status stop)
stop-answers input Fault no_fault many = absurd (no_fault refl)
stop-answers input TooMany no_fault many = rw (many refl) (2, lit< tt, refl)
stop-answers input OutOfMemory no_fault many = memory-answers input
