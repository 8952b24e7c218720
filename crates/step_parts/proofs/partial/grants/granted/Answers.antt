use Rattle.std.proofs.Common.{rules}
use Rattle.step_parts.proofs.partial.grants.granted.Goals as goal

pub returns : goal.returns
returns c = search rules
