-- The statuses of runs that stop before their answer.
use Rattle.std.specs.Prelude.{ℕ}
use Rattle.command_line.specs.declared.status.TheConstants.{READ_FAULT, OUT_OF_MEMORY, TOO_MANY}
use Rattle.command_line.specs.declared.stop.Stop.{Stop}
use Rattle.command_line.specs.declared.stop.Stop.TheVariants.{Fault, TooMany, OutOfMemory}

-- the status of each stop
abbrev pub stop_status : Stop → ℕ
stop_status Fault = READ_FAULT
stop_status TooMany = TOO_MANY
stop_status OutOfMemory = OUT_OF_MEMORY
