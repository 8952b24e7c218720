use Rattle.std.proofs.Common.{◌≡◌, None, false, length}
use Rattle.trace_lane.proofs.Common.{AdvancesOn}
use Rattle.trace_lane.proofs.lane.LaneState+Grip.begin_next.Given as goal

abbrev pub invariant-loop-op : goal.invariant-loop-op
invariant-loop-op g l = record {
  so : AdvancesOn (g.G.Gate.passed l.gate) l.operations l.fn.core l.core l.fn.self l.self false;
  same : l.core.events ≡ l.fn.core.events;
  between : l.self.work ≡ None;
  here : length l.self.outcomes.items ≡ l.op;
}
