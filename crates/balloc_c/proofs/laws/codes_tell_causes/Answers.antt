use Rattle.balloc_c.proofs.CodesLemmas.{apart, not_freed, not_made}
use Rattle.balloc_c.proofs.laws.codes_tell_causes.Goals as goal

pub returns-clause-apart : goal.returns-clause-apart
returns-clause-apart c = apart

pub returns-clause-made : goal.returns-clause-made
returns-clause-made c = not_made

pub returns-clause-freed : goal.returns-clause-freed
returns-clause-freed c = not_freed
