use Rattle.std.proofs.Common.{rules}
use Rattle.errand_steps.proofs.errand.Errand.is_full.Goals as goal

pub returns : goal.returns
returns c = search rules
