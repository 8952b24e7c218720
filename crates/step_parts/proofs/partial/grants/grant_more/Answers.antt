use Rattle.std.proofs.Common.{rules}
use Rattle.step_parts.proofs.partial.grants.grant_more.Goals as goal

pub returns-clause-value : goal.returns-clause-value
returns-clause-value c = search rules
