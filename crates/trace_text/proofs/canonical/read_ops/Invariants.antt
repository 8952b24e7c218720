use Rattle.std.proofs.Common.{◌≡◌, ◌++◌, ◌-◌, ◌≤◌, List, drop, length}
use Rattle.trace_text.specs.Canonical.{BeginsWithOps}
use Rattle.trace_text.specs.declared.trace.Op.{Op}
use Rattle.trace_text.proofs.canonical.read_ops.Given as goal

abbrev pub invariant-loop-at : goal.invariant-loop-at
invariant-loop-at l = record {
  within : l.at ≤ length l.text;
  few : l.count ≤ l.at;
  ops : (more : List Op) × (l.ops.items ≡ l.fn.ops.items ++ more) × (length more ≡ l.count) × BeginsWithOps l.version l.text more (drop l.at l.text);
}

abbrev pub decreases-loop-at : goal.decreases-loop-at
decreases-loop-at l = length l.text - l.at
