use Rattle.std.proofs.Common.{◌<◌}
use Rattle.part_tests.proofs.plain_calls.make_all.Given as goal

abbrev pub invariant-loop-row : goal.invariant-loop-row
invariant-loop-row g l = 0 < l.pool.geometry.callers
