use Rattle.errand_steps.proofs.EventLemmas.{event_given, event_own}
use Rattle.errand_steps.proofs.laws.events_are_of_the_heap.Goals as goal

pub returns-clause-own : goal.returns-clause-own
returns-clause-own c e x event is = event_own e.caller e.point x event is

pub returns-clause-given : goal.returns-clause-given
returns-clause-given c e x caller need place h is = event_given e.geometry e.caller e.point x caller need place h.point is
