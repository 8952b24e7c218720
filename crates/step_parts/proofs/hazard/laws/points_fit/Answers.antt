use Rattle.step_parts.proofs.hazard_lemmas.PointLemmas.{plan-exists, settle-fits, settle-seat}
use Rattle.step_parts.proofs.hazard.laws.points_fit.Goals as goal

pub returns-clause-names : goal.returns-clause-names
returns-clause-names c = plan-exists

pub returns-clause-keeps : goal.returns-clause-keeps
returns-clause-keeps c = settle-fits

pub returns-clause-seat : goal.returns-clause-seat
returns-clause-seat c = settle-seat
