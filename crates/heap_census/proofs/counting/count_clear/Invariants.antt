use Rattle.std.proofs.Common.{◌≡◌, ◌≤◌}
use Rattle.std.specs.Prelude.{◌==◌, if◌then◌else◌}
use Rattle.std.specs.Int.{bit_at}
use Rattle.sound_state.specs.Sums.{sum_below}
use Rattle.heap_census.proofs.counting.count_clear.Given as goal

-- the bits before the next one are counted
abbrev pub invariant-loop-bit : goal.invariant-loop-bit
invariant-loop-bit l = record {
  sum : l.clear ≡ sum_below l.bit (λ bit. if bit_at l.word bit == 0 then 1 else 0);
  most : l.clear ≤ l.bit;
}
