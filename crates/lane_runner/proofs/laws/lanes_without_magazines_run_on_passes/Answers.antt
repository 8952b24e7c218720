use Rattle.lane_runner.proofs.PlainRuns.{bare-run}
use Rattle.lane_runner.proofs.laws.lanes_without_magazines_run_on_passes.Goals as goal

pub returns : goal.returns
returns c = bare-run
