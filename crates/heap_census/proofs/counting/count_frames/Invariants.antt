use Rattle.std.proofs.Common.{◌-◌}
use Rattle.heap_census.proofs.WalkLemmas.{IsWalk}
use Rattle.heap_census.proofs.counting.count_frames.Given as goal

abbrev pub invariant-loop-top : goal.invariant-loop-top
invariant-loop-top l = IsWalk l.closed l.frames l.top

abbrev pub decreases-loop-top : goal.decreases-loop-top
decreases-loop-top l = l.closed.geometry.frames - l.frames
