use Rattle.std.proofs.Common.{◌-◌}
use Rattle.worked_programs.proofs.collections.build.fill.Given as goal

abbrev pub decreases-loop-length : goal.decreases-loop-length
decreases-loop-length l = 4294967295 - l.length
