use Rattle.std.proofs.Common.{◌≡◌, ◌*◌, ◌^◌, map, take}
use Rattle.command_line.specs.Tallies.{AreFew, all_of, tally_of}
use Rattle.command_line.proofs.tally.tally_lanes.Given as goal

abbrev pub invariant-loop-lane : goal.invariant-loop-lane
invariant-loop-lane l = record {
  value : l.tally ≡ tally_of (all_of (map (λ lane. lane.items) (take l.lane-index l.outcomes)));
  few : AreFew (2 ^ 96 * l.lane-index) l.tally;
}
