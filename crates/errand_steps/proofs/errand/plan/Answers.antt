use Rattle.errand_steps.proofs.PlanLemmas.{plan-exists}
use Rattle.errand_steps.proofs.errand.plan.Goals as goal

pub returns-clause-exists : goal.returns-clause-exists
returns-clause-exists c =
    rw (c.plan_point.ensures, ← c.errand.view_is)
    (plan-exists c.errand.inside.seat.geometry c.errand.inside.seat.caller c.errand.inside.point c.errand.invariant.geometry c.errand.invariant.caller c.errand.invariant.point)
