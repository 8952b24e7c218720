use Rattle.std.proofs.Common.{◌<◌, length, arith}
use Rattle.std.proofs.lemmas.Result.{on_err_weaker, on_ok_weaker}
use Rattle.lane_runner.proofs.OrderLemmas.{finish-stopped, finished, stands-on}
use Rattle.lane_runner.proofs.run_core.finish_lane.Goals as goal

pub run_to_end-requires-clause-stands : goal.run_to_end-requires-clause-stands
run_to_end-requires-clause-stands g c =
    let ran = c.requires.finished.run.ran in
    stands-on c.args.lane c.requires.trace ran (omega (arith, c.requires.lane, ran.all)) c.lane_of.ensures c.index_mut.ensures.value

pub returns-clause-ran : goal.returns-clause-ran
returns-clause-ran g c =
    let lt : c.args.lane < length c.args.lanes.now.items = omega (arith, c.requires.lane, c.requires.finished.run.ran.all) in
    on_ok_weaker c.run_to_end.result (finished c.args.lane lt c.lane_of.ensures c.index_mut.ensures.value c.requires.finished) c.run_to_end.ensures.ran

pub returns-clause-stopped : goal.returns-clause-stopped
returns-clause-stopped g c =
    let lt : c.args.lane < length c.args.lanes.now.items = omega (arith, c.requires.lane, c.requires.finished.run.ran.all) in
    on_err_weaker c.run_to_end.result (finish-stopped c.args.lane lt c.lane_of.ensures c.index_mut.ensures.value c.requires.finished) c.run_to_end.ensures.stopped
