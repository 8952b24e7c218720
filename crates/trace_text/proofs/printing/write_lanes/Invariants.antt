use Rattle.std.proofs.Common.{◌≡◌, ◌++◌, take, map}
use Rattle.std.specs.List.{flat_map}
use Rattle.trace_text.specs.Text.{lane_lines}
use Rattle.trace_text.proofs.printing.write_lanes.Given as goal

abbrev pub invariant-loop-ops : goal.invariant-loop-ops
invariant-loop-ops l = l.text ≡ l.fn.text ++ flat_map lane_lines (map (λ ops. ops.items) (take l.ops-index l.lanes))
