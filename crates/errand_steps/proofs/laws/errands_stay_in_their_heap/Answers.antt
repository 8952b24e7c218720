use Rattle.errand_steps.proofs.ErrandLemmas.{settle_errand}
use Rattle.errand_steps.proofs.PlanLemmas.{plan-exists}
use Rattle.errand_steps.proofs.laws.errands_stay_in_their_heap.Goals as goal

pub returns-clause-names : goal.returns-clause-names
returns-clause-names c e h = plan-exists e.geometry e.caller e.point h.geometry h.caller h.point

pub returns-clause-keeps : goal.returns-clause-keeps
returns-clause-keeps c e x word h = settle_errand e x h word
