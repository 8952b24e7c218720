use Rattle.std.proofs.Common.{◌≡◌, None, replicate}
use Rattle.trace_lane.proofs.lane.empty_registers.Given as goal

abbrev pub invariant-loop : goal.invariant-loop
invariant-loop g l = l.registers.items ≡ replicate l.counter None
