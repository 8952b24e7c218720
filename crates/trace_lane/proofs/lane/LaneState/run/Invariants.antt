use Rattle.std.proofs.Common.{◌≡◌, length}
use Rattle.trace_lane.proofs.Common.{HasRun, HoldsBlocks, FirstPassed}
use Rattle.trace_lane.proofs.lane.LaneState.run.Given as goal

abbrev pub invariant-loop-op : goal.invariant-loop-op
invariant-loop-op g l = record {
  stands : g.C.Calls.maker.stands l.calls;
  base : g.C.Calls.maker.runs_on l.calls ≡ g.C.Calls.maker.runs_on l.fn.calls;
  holds : HoldsBlocks g.B.Token.place_of g.B.Token.need_of (g.C.Calls.maker.owns l.calls) l.self.registers.items;
  ran : HasRun g.B.Token.place_of g.B.Token.need_of g.C.Calls.maker.called l.operations l.fn.calls l.calls l.fn.self l.self;
  here : length l.self.outcomes.items ≡ l.op;
  gate :
      FirstPassed (g.G.Gate.passed l.gate) l.fn.self.caller (length l.fn.self.outcomes.items)
      → FirstPassed (g.G.Gate.passed l.gate) l.fn.self.caller l.op;
}
