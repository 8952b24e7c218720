use Rattle.std.proofs.Common.{rules}
use Rattle.lane_runner.proofs.run_core.outcomes_of.Goals as goal

pub returns : goal.returns
returns c = search rules
