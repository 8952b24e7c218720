use Rattle.std.proofs.Common.{◌≡◌}
use Rattle.workloads.specs.Held.{AreTold}
use Rattle.workloads.specs.Lanes.{larson_rounds}
use Rattle.workloads.proofs.larson.larson.Given as goal

abbrev pub invariant-loop-round : goal.invariant-loop-round
invariant-loop-round l = record {
  ops : (l.ops.items, l.draws) ≡ larson_rounds l._round l.fn.draws;
  held : AreTold l.held l.ops.items;
}
