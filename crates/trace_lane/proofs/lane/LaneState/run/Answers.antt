use Rattle.std.proofs.Common.{◌∷◌, ◌+◌, [], length, length-append, refl, ap, ◌∙◌}
use Rattle.trace_lane.proofs.LaneNext.{gate-number, next-op, passed-more}
use Rattle.trace_lane.proofs.MadeLemmas.{run-more}
use Rattle.trace_lane.proofs.lane.LaneState.run.Goals as goal

pub loop-op-preserved : goal.loop-op-preserved
loop-op-preserved g c =
    let i = c.loop-op.invariant in
    let e = c.make.ensures in
    let passed = g.G.Gate.passed c.args.gate.now in
    let mid = c.loop-op.self in
    let caller = c.args.self.now.caller in
    let op = c.loop-op.op in
    record {
      stands = e.stands;
      base = e.base ∙ i.base;
      holds = e.made.holds;
      ran =
          run-more g.B.Token.place_of g.B.Token.need_of g.C.Calls.maker c.args.operations.now c.args.calls.now c.loop-op.calls
          c.make.new.calls c.args.self.now mid c.make.new.self _ i.ran
          (next-op c.args.operations.now mid.outcomes.items op _ i.here c.loop-op-test.true) e.made;
      here =
          ap length e.made.results ∙ length-append mid.outcomes.items (e.made.result ∷ []) ∙ ap (λ n. n + 1) i.here;
      gate = λ first.
          passed-more passed caller op (i.gate first)
          (gate-number passed mid.caller caller c.number_of.result op op i.ran.same_caller c.number_of.ensures refl c.pass.ensures);
    }
