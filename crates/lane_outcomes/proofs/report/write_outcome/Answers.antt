use Rattle.std.proofs.Common.{rules}
use Rattle.lane_outcomes.proofs.report.write_outcome.Goals as goal

pub returns-in-Took : goal.returns-in-Took
returns-in-Took c = search rules
