use Rattle.std.proofs.Common.{rules}
use Rattle.workloads.proofs.making.lane_ops.Goals as goal

pub returns-in-Threadtest : goal.returns-in-Threadtest
returns-in-Threadtest c = search rules
