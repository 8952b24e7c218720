use Rattle.std.proofs.Common.{ℕ, rules, ◌∙◌, ap}
use Rattle.live_heap.specs.Heaps.{HeapFields}
use Rattle.block_cache.specs.Whole.{HoldsAt}
use Rattle.lane_runner.proofs.CacheRuns.{made-all, new-holds}
use Rattle.lane_runner.proofs.run_lanes.run_lane.Goals as goal

pub run-requires-clause-holds : goal.run-requires-clause-holds
run-requires-clause-holds g c =
    let lane = c.args.lane.now in new-holds (HoldsAt c.new-calls.result.cache.now) lane.caller _ lane c.requires.new

pub returns : goal.returns
returns g c =
    let e = c.run.ensures in
    let n = c.new-calls.ensures in
    let ran = made-all (g.G.Gate.passed c.args.gate.now) c.args.heap.now c.args.operations.now c.new-calls.result c.run.new.calls c.args.cache.now
    c.args.lane.now c.run.new.self c.requires.new n.cache n.heap e.stands e.ran e.ended e.passed in
    let name = ap (λ (p : ℕ × HeapFields). p.0) e.base ∙ n.same in
    search rules
