use Rattle.std.proofs.Common.{◌≡◌, ◌<◌, ◌^◌, length, rules, ap, ◌∙◌, subst}
use Rattle.trace_text.specs.declared.trace.Op.{Op}
use Rattle.std.specs.Prelude.{List}
use Rattle.trace_lane.specs.Paths.{FirstPassed}
use Rattle.lane_runner.specs.Running.{operations_in}
use Rattle.lane_runner.specs.Threads.{HasRunThrough}
use Rattle.lane_runner.proofs.run_lanes.CacheThread.run.Goals as goal

pub returns : goal.returns
returns g c =
    let t = c.args.self.now in
    let h = c.args.heap.now in
    let trace = c.args.trace.now in
    let e = c.run_lane.ensures in
    let lane = c.run_lane.new.lane in
    let ops : c.lane_of-operations.result.now ≡ operations_in trace t.lane.caller =
    c.lane_of-operations.ensures ∙ ap (operations_in trace) c.caller.ensures in
    let few : length c.lane_of-operations.result.now < 2 ^ 64 = search rules in
    record {
      same = e.same;
      through =
          subst (λ (o : List Op). HasRunThrough h o lane.outcomes.items t.cache c.empty.new.cache) ops
          (record { ran = c.run_lane.new.cache; made = e.made; emptied = c.empty.ensures.emptied; rests = c.empty.ensures.rests });
      all = subst (λ (o : List Op). length lane.outcomes.items ≡ length o) ops e.all;
      few = subst (λ (o : List Op). length o < 2 ^ 64) ops few;
      gate = subst (λ (o : List Op). FirstPassed (g.G.Gate.passed c.args.gate.now) t.lane.caller (length o)) ops e.gate;
    }
