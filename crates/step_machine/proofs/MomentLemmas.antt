-- A step of a machine as its caller sees it, and as the others do.
use Rattle.std.proofs.Common.{ℕ, ◌≡◌, ◌≢◌, ◌<◌, List, [], ◌∷◌, Option, Some, None, ne_eqb, refl, sym, ap, ◌∙◌, subst}
use Rattle.std.proofs.lemmas.List.{append-nil}
use Rattle.heap_geometry.specs.declared.geometry.Geometry.{Geometry}
use Rattle.pool_model.specs.declared.event.Event.{Event}
use Rattle.pool_model.specs.Histories.{caller_of, own}
use Rattle.errand_steps.specs.declared.reply.Progress.{Progress}
use Rattle.errand_steps.specs.Errands.{ErrandFields, answer_of}
use Rattle.errand_steps.specs.Steps.{State, Step, event_at, found_at, with_event}
use Rattle.errand_steps.proofs.EventLemmas.{event_own}
use Rattle.sound_state.specs.Sound.{IsSound, IsOwnErrand}
use Rattle.sound_laws.proofs.bounds_lemmas.TurnBounds.{turns-bounded}
use Rattle.step_machine.specs.Cores.{CoreFields, IsCore, IsReached, errand_at, state_of}
use Rattle.step_machine.specs.Moments.{IsMoment, HasSeenMore, IsServed}
use Rattle.step_machine.specs.Steps.{IsStepped}
use Rattle.step_machine.proofs.CoreLemmas.{core-sound, run-sound, run-won}

-- each caller in a state that was reached has its own errand, and legal events that bound its turns
pub reached-served :
    (g : Geometry) (s : State) (made caller : ℕ) → IsReached g s made → caller < g.callers → IsServed g caller (s.errand caller) s.history
reached-served g s made caller run has =
    let sound : IsSound g s = run-sound g s made run in
    record {
      checked = sound.checked;
      has = has;
      own_errand = sound.parts.1.formed.errands caller has;
      legal = sound.legal;
      answers = sound.parts.1.turned.own_answers caller has;
      by_lost = sound.parts.1.turned.own_lost caller has;
      by_given = turns-bounded g s run.wins caller (run-won g s made run) has;
    }

-- each caller of a machine has its own errand, and legal events that bound its turns
pub core-served :
    (c : CoreFields) (caller : ℕ) → IsCore c → caller < c.geometry.callers
    → IsServed c.geometry caller (errand_at c.errands caller) c.events
core-served c caller core has = reached-served c.geometry (state_of c) c.steps caller core.run has

-- a step of the machine as its caller's moment, before which nobody else made an event
pub core-moment :
    (c after : CoreFields) (caller : ℕ) (answer : Progress) → IsCore c → caller < c.geometry.callers → IsStepped c caller answer after
    → IsMoment (errand_at c.errands caller) (errand_at after.errands caller) c.events after.events answer
core-moment c after caller answer core has stepped =
    let s = state_of c in
    let e : ErrandFields = errand_at c.errands caller in
    let mine : IsOwnErrand c.geometry caller e = (core-sound c core).parts.1.formed.errands caller has in
    record {
      has = subst (λ g. e.caller < g.callers) (sym mine.geometry) (subst (λ k. k < c.geometry.callers) (sym mine.number) has);
      state = s;
      next = state_of after;
      between = [];
      made = c.steps;
      reached = subst (λ g. IsReached g s c.steps) (sym mine.geometry) core.run;
      sound = subst (λ g. IsSound g s) (sym mine.geometry) (core-sound c core);
      here = ap (errand_at c.errands) mine.number;
      step = subst (λ k. Step s k (state_of after)) (sym mine.number) stepped.step;
      there = ap (errand_at after.errands) mine.number;
      not_own = refl;
      seen = sym (append-nil c.events);
      now = refl;
      answers = stepped.answers ∙ ap (λ k. answer_of e (found_at s k)) (sym mine.number);
    }

-- the event of another caller's step, if it has one, isn't this caller's
not-own : (other : ℕ) (event : Event) → caller_of event ≢ other → own other (event ∷ []) ≡ []
not-own other event differ = rw (ne_eqb (caller_of event) other differ) refl

seen-more :
    (other : ℕ) (before : List Event) (event : Option Event) → ((e : Event) → event ≡ Some e → caller_of e ≢ other)
    → HasSeenMore other before (with_event before event)
seen-more other before None differ = record { more = []; seen = sym (append-nil before); not_own = refl }
seen-more other before (Some event) differ = record { more = event ∷ []; seen = refl; not_own = not-own other event (differ event refl) }

-- a caller sees nothing more where no event was added
pub same-seen : (other : ℕ) (before after : List Event) → after ≡ before → HasSeenMore other before after
same-seen other before after same = record { more = []; seen = same ∙ sym (append-nil before); not_own = refl }

-- another caller's errand stays through a step, and that caller sees what the step added
pub core-beside :
    (c after : CoreFields) (caller other : ℕ) (answer : Progress) → IsStepped c caller answer after → other ≢ caller
    → (errand_at after.errands other ≡ errand_at c.errands other) × HasSeenMore other c.events after.events
core-beside c after caller other answer stepped differ =
    let s = state_of c in (
      stepped.step.errand.elsewhere other differ,
      subst (HasSeenMore other c.events) (sym stepped.step.history)
          (seen-more other c.events (event_at s caller)
          (λ e is same. differ (sym same ∙ event_own caller (errand_at c.errands caller).point (found_at s caller) e is))),
    )
