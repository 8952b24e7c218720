use Rattle.heap_geometry.proofs.NeedLemmas.{run-least}
use Rattle.heap_geometry.proofs.need.least_run.Goals as goal

pub returns-clause-least : goal.returns-clause-least
returns-clause-least c = run-least c.args.need c.div_ceil.result c.requires.large c.div_ceil.ensures
