use Rattle.std.proofs.Common.{◌∙◌, sym, ap}
use Rattle.heap_geometry.specs.declared.geometry.Geometry.{Geometry}
use Rattle.lane_runner.proofs.Numbered.{some-lane}
use Rattle.lane_runner.proofs.ThreadLemmas.{ended-home, ended-idle, have-run}
use Rattle.lane_runner.proofs.run_lanes.run_lanes.Goals as goal

pub returns-clause-ran : goal.returns-clause-ran
returns-clause-ran g c =
    let trace = c.args.trace.now in
    let run = c.take_back.new.run in
    let back = c.take_back.ensures in
    have-run trace c.args.heap.now c.args.depth run.passes.items run.outcomes.items run.hits.items c.requires.trace
    (some-lane trace.lanes c.is_empty.result c.is_empty.ensures c.if-is_empty.false) back.0 back.1

pub returns-clause-idle : goal.returns-clause-idle
returns-clause-idle g c =
    let trace = c.args.trace.now in
    let h = c.args.heap.now in
    let depth = c.args.depth in
    let run = c.take_back.new.run in
    let back = c.take_back.ensures in
    let some_one = some-lane trace.lanes c.is_empty.result c.is_empty.ensures c.if-is_empty.false in
    record {
      all =
          (have-run trace h depth run.passes.items run.outcomes.items run.hits.items c.requires.trace some_one back.0 back.1).all
          ∙ sym (ap (λ (g : Geometry). g.callers) c.requires.heap);
      each = ended-idle trace h depth 0 run.passes.items run.outcomes.items run.hits.items back.1;
    }

pub returns-clause-home : goal.returns-clause-home
returns-clause-home g c =
    let run = c.take_back.new.run in
    ended-home c.args.trace.now c.args.heap.now c.args.depth 0 run.passes.items run.outcomes.items run.hits.items c.take_back.ensures.1
