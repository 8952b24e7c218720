use Rattle.std.proofs.Common.{◌≡◌, ◌-◌, ◌^◌, min}
use Rattle.sound_state.specs.Sums.{sum_below}
use Rattle.worked_programs.specs.Embedded.{live_in}
use Rattle.worked_programs.proofs.embedded.count_live.Given as goal

abbrev pub invariant-loop-class : goal.invariant-loop-class
invariant-loop-class l = l.live ≡ min (sum_below l.class (live_in l.closed)) (2 ^ 64 - 1)
