use Rattle.std.proofs.Common.{All}
use Rattle.heap_geometry.specs.Geometry.{IsChecked}
use Rattle.benches.proofs.command.commands_of.Given as goal

abbrev pub invariant-loop-own : goal.invariant-loop-own
invariant-loop-own l = record { checked : All (λ command. IsChecked command.geometry) l.commands.items }
