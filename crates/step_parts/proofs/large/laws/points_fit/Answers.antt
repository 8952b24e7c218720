use Rattle.step_parts.proofs.large_lemmas.PointLemmas.{plan-exists, settle-fits}
use Rattle.step_parts.proofs.large.laws.points_fit.Goals as goal

pub returns-clause-names : goal.returns-clause-names
returns-clause-names c = plan-exists

pub returns-clause-keeps : goal.returns-clause-keeps
returns-clause-keeps c = settle-fits
