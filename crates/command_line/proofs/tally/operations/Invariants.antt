use Rattle.std.proofs.Common.{◌≡◌, ◌≤◌, ◌*◌, ◌^◌, length, map, take}
use Rattle.command_line.specs.Tallies.{all_of}
use Rattle.command_line.proofs.tally.operations.Given as goal

abbrev pub invariant-loop-lane : goal.invariant-loop-lane
invariant-loop-lane l = record {
  value : l.count ≡ length (all_of (map (λ lane. lane.items) (take l.lane-index l.lanes)));
  few : l.count ≤ 2 ^ 64 * l.lane-index;
}
