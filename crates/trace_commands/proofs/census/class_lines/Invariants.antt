use Rattle.std.proofs.Common.{◌≡◌}
use Rattle.std.specs.List.{flat_map, range_with_len}
use Rattle.trace_commands.specs.Censuses.{line_of}
use Rattle.trace_commands.proofs.census.class_lines.Given as goal

abbrev pub invariant-loop-class : goal.invariant-loop-class
invariant-loop-class l = l.lines.items ≡ flat_map (line_of l.fn.census) (range_with_len 0 l.class)
