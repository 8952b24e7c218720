use Rattle.std.proofs.Common.{◌≡◌, ◌<◌}
use Rattle.benches.proofs.machine.run.run.Given as goal

abbrev pub invariant-loop : goal.invariant-loop
invariant-loop l = record { heap : l.core.geometry ≡ l.geometry; caller : l.caller < l.geometry.callers }
