use Rattle.std.proofs.Common.{◌≡◌, ◌≤◌, ◌*◌, ◌^◌, take}
use Rattle.std.specs.Prelude.{sum}
use Rattle.trace_commands.proofs.cached.total.Given as goal

abbrev pub invariant-loop-served : goal.invariant-loop-served
invariant-loop-served l = record {
  value : l.total ≡ sum (take l.served-index l.hits);
  few : l.total ≤ 2 ^ 64 * l.served-index;
}
