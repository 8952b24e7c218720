use Rattle.std.proofs.Common.{◌≡◌, ◌++◌, take}
use Rattle.std.specs.List.{flat_map}
use Rattle.trace_text.specs.Text.{lane_line, op_line}
use Rattle.trace_text.proofs.printing.write_lane.Given as goal

abbrev pub invariant-loop-op : goal.invariant-loop-op
invariant-loop-op l = l.text ≡ l.fn.text ++ (lane_line ++ flat_map op_line (take l.op-index l.ops))
