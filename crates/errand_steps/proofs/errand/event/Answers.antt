use Rattle.std.proofs.Common.{◌≡◌, ◌∙◌, sym, ap, subst, ℕ, Some}
use Rattle.pool_model.specs.declared.event.Event.TheVariants.{Alloc}
use Rattle.errand_steps.specs.Events.{event_of}
use Rattle.errand_steps.proofs.EventLemmas.{event_given}
use Rattle.errand_steps.proofs.errand.event.Goals as goal

pub returns-clause-given : goal.returns-clause-given
returns-clause-given c caller need place is =
    let own : c.caller.result ≡ c.errand.inside.seat.caller = c.caller.ensures.value ∙ sym (ap (λ e. e.caller) c.errand.view_is) in
    let Tells : ℕ → Type 0 = λ by. event_of by c.errand.inside.point c.args.found ≡ Some (Alloc caller need place) in
    rw (← c.errand.view_is)
    (event_given c.errand.inside.seat.geometry c.errand.inside.seat.caller c.errand.inside.point c.args.found caller need place c.errand.invariant.point
    (subst Tells own (sym c.event_of.ensures ∙ is)))
