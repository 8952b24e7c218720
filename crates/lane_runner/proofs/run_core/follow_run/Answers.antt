use Rattle.std.proofs.Common.{sym, ◌<◌, arith, length}
use Rattle.std.proofs.lemmas.Result.{on_err_weaker, on_ok_weaker}
use Rattle.lane_runner.proofs.OrderLemmas.{follow-stopped, followed, stands-on}
use Rattle.lane_runner.proofs.run_core.follow_run.Goals as goal

pub run_some-requires-clause-stands : goal.run_some-requires-clause-stands
run_some-requires-clause-stands g c =
    let (moves, ran) = c.requires.stand in
    stands-on c.from-lane.result c.requires.trace ran (omega (arith, c.from-lane.ensures, c.requires.order.0, ran.all)) c.lane_of.ensures c.index_mut.ensures.value

pub returns-clause-ran : goal.returns-clause-ran
returns-clause-ran g c =
    let lane = c.from-lane.result in
    let lt : lane < length c.args.lanes.now.items = omega (arith, c.from-lane.ensures, c.requires.order.0, c.requires.stand.1.all) in
    on_ok_weaker c.run_some.result
    (λ some later h. followed later lane lt (sym c.from-lane.ensures) c.lane_of.ensures c.index_mut.ensures.value h some) c.run_some.ensures.ran

pub returns-clause-stopped : goal.returns-clause-stopped
returns-clause-stopped g c =
    let lane = c.from-lane.result in
    let lt : lane < length c.args.lanes.now.items = omega (arith, c.from-lane.ensures, c.requires.order.0, c.requires.stand.1.all) in
    on_err_weaker c.run_some.result
    (λ some later h. follow-stopped later lane lt (sym c.from-lane.ensures) c.lane_of.ensures c.index_mut.ensures.value h some) c.run_some.ensures.stopped
