-- One move of any caller, seen by a caller that is in a call.
use Rattle.std.proofs.Common.{ℕ, ◌≡◌, ◌≢◌, ◌<◌, List, [], ◌++◌, Some, inl, inr, refl, sym, ap, ◌∙◌, subst, append-nil, true≢false}
use Rattle.std.proofs.lemmas.Bool.{cases_eq}
use Rattle.sound_state.proofs.Common.{Geometry, Event, own, Reply, ErrandFields, settle_of, event_of, State, Step, found_at, name_at, with_event, IsSound, caller_of, Done}
use Rattle.sound_state.proofs.Common.{IsIdle, IsBusy, Call, alloc, free, write, read, put, begun_by, answer_of, event_at, BeginsCall, Move, begins, steps, Moved}
use Rattle.errand_steps.specs.Calls.{take}
use Rattle.errand_steps.proofs.EventLemmas.{event_own}
use Rattle.sound_laws.specs.events.Ends.{HasEnded}
use Rattle.sound_laws.specs.events.UnderWay.{IsUnderWay, IsAboutBlock}
use Rattle.sound_laws.proofs.events_lemmas.AnswerLemmas.{step-goes_on, step-ends}
use Rattle.sound_laws.proofs.events_lemmas.BeginsLemmas.{call-begins}
use Rattle.sound_laws.proofs.events_lemmas.EndLemmas.{way-busy}
use Rattle.sound_laws.specs.events.Calls.{IsInCall, HasEndedCall}
use Rattle.sound_state.specs.Runs.{MayBegin}
use Rattle.sound_state.proofs.CountedLemmas.{without-counts}
use Rattle.sound_state.proofs.beginnings.BegunLemmas.{errand-block}
use Rattle.sound_laws.proofs.events_lemmas.OwnEvents.{own-with_event, own-of_others, added-event}

-- a step's event is its caller's
event-of_step : (s : State) (caller : ℕ) (e : Event) → event_at s caller ≡ Some e → caller_of e ≡ caller
event-of_step s caller e is = event_own caller (s.errand caller).point (found_at s caller) e is

-- the block that a call is about is one of the heap's, where the caller may begin the call
about-block :
    (g : Geometry) (s : State) (caller : ℕ) (call : Call) → IsSound g s → caller < g.callers → MayBegin s caller call
    → IsAboutBlock (s.errand caller).geometry call
about-block g s caller (alloc words) sound has may = tt
about-block g s caller (free place need) sound has may = errand-block g s caller place need (without-counts g s sound) has may
about-block g s caller (write place need i value) sound has may = errand-block g s caller place need (without-counts g s sound) has may.0
about-block g s caller (read place need i) sound has may = errand-block g s caller place need (without-counts g s sound) has may.0
about-block g s caller (put place need shelf) sound has may = errand-block g s caller place need (without-counts g s sound) has may.0
about-block g s caller (take shelf) sound has may = tt

pub begins-in_call :
    (g : Geometry) (s : State) (caller : ℕ) (call : Call) (s' : State) → IsSound g s → caller < g.callers → BeginsCall s caller call s'
    → IsBusy (s'.errand caller) → IsInCall caller call (own caller s.history) s'
begins-in_call g s caller call s' sound has b busy =
    let here : s'.errand caller ≡ begun_by (s.errand caller) call = ap (λ (t : State). t.errand caller) b.after ∙ b.moves.here in
    let way = call-begins (s.errand caller) call b.idle (about-block g s caller call sound has b.may) (subst IsBusy here busy) in
    let mine = (sound.parts.1.formed.errands caller has).number in
    record {
      added = [];
      events = ap (λ (t : State). own caller t.history) b.after ∙ sym (append-nil (own caller s.history));
      under_way = subst (λ (e : ErrandFields). IsUnderWay caller call e.point []) (sym here)
          (subst (λ (i : ℕ). IsUnderWay i call (begun_by (s.errand caller) call).point []) mine way);
    }

-- a step of a caller adds its event, if any, to the caller's own
own-events :
    (s : State) (caller : ℕ) (s' : State) (before added : List Event) → Step s caller s' → own caller s.history ≡ before ++ added
    → own caller s'.history ≡ before ++ with_event added (event_at s caller)
own-events s caller s' before added step is =
    ap (own caller) step.history ∙ own-with_event caller s.history (event_at s caller) (event-of_step s caller)
    ∙ ap (λ h. with_event h (event_at s caller)) is ∙ added-event before added (event_at s caller)

pub step-in_call :
    (g : Geometry) (s : State) (caller : ℕ) (call : Call) (before : List Event) (s' : State) → IsSound g s → caller < g.callers
    → IsInCall caller call before s → Step s caller s' → IsBusy (s'.errand caller) → IsInCall caller call before s'
step-in_call g s caller call before s' sound has now step busy =
    let e = s.errand caller in
    let x = found_at s caller in
    let own_errand = sound.parts.1.formed.errands caller has in
    let mine : e.caller ≡ caller = own_errand.number in
    let here : s'.errand caller ≡ settle_of e x = step.errand.here in
    let way = subst (λ (i : ℕ). IsUnderWay i call e.point now.added) (sym mine) now.under_way in
    let goes = step-goes_on e x call now.added own_errand.rule (sound.parts.1.formed.words (name_at s caller)) refl way (subst IsBusy here busy) in
    record {
      added = with_event now.added (event_at s caller);
      events = own-events s caller s' before now.added step now.events;
      under_way = subst (λ (f : ErrandFields). IsUnderWay caller call f.point (with_event now.added (event_at s caller))) (sym here)
          (subst (λ (i : ℕ). IsUnderWay i call (settle_of e x).point (with_event now.added (event_of i e.point x))) mine goes);
    }

pub step-ends_call :
    (g : Geometry) (s : State) (caller : ℕ) (call : Call) (before : List Event) (s' : State) (r : Reply) → IsSound g s → caller < g.callers
    → IsInCall caller call before s → Step s caller s' → answer_of (s.errand caller) (found_at s caller) ≡ Done r
    → HasEndedCall caller call before r s'
step-ends_call g s caller call before s' r sound has now step is =
    let e = s.errand caller in
    let x = found_at s caller in
    let own_errand = sound.parts.1.formed.errands caller has in
    let mine : e.caller ≡ caller = own_errand.number in
    let way = subst (λ (i : ℕ). IsUnderWay i call e.point now.added) (sym mine) now.under_way in
    let ends = step-ends e x call now.added r own_errand.rule (sound.parts.1.formed.words (name_at s caller)) refl way is in
    record {
      added = with_event now.added (event_at s caller);
      events = own-events s caller s' before now.added step now.events;
      ended = subst (λ (i : ℕ). HasEnded i call r (with_event now.added (event_of i e.point x))) mine ends;
    }

-- a move of another caller changes neither the errand nor the own events
pub record IsAside (caller : ℕ) (s s' : State) : Type 0 where
  pub errand : s'.errand caller ≡ s.errand caller
  pub events : own caller s'.history ≡ own caller s.history

pub begins-aside : (s : State) (caller other : ℕ) (call : Call) (s' : State) → other ≢ caller → BeginsCall s other call s' → IsAside caller s s'
begins-aside s caller other call s' apart b = record {
  errand = ap (λ (t : State). t.errand caller) b.after ∙ b.moves.elsewhere caller (λ same. apart (sym same));
  events = ap (λ (t : State). own caller t.history) b.after;
}

pub steps-aside : (s : State) (caller other : ℕ) (s' : State) → other ≢ caller → Step s other s' → IsAside caller s s'
steps-aside s caller other s' apart step = record {
  errand = step.errand.elsewhere caller (λ same. apart (sym same));
  events = ap (own caller) step.history ∙ own-of_others caller other s.history (event_at s other) (event-of_step s other) apart;
}

aside-in_call : (caller : ℕ) (call : Call) (before : List Event) (s s' : State) → IsInCall caller call before s → IsAside caller s s' → IsInCall caller call before s'
aside-in_call caller call before s s' now aside = record {
  added = now.added;
  events = aside.events ∙ now.events;
  under_way = subst (λ (e : ErrandFields). IsUnderWay caller call e.point now.added) (sym aside.errand) now.under_way;
}

pub moved-in_call :
    (g : Geometry) (s : State) (caller : ℕ) (call : Call) (before : List Event) (move : Move) (s' : State) → IsSound g s → caller < g.callers
    → IsInCall caller call before s → Moved g s move s' → IsBusy (s'.errand caller) → IsInCall caller call before s'
moved-in_call g s caller call before (begins other begun) s' sound has now moved busy =
    elim (cases_eq other caller) [
      | inl same ↦
          let idle : IsIdle (s.errand caller) = subst (λ i. IsIdle (s.errand i)) same moved.1.idle in
          absurd (true≢false (sym idle ∙ way-busy caller call (s.errand caller).point now.added now.under_way))
      | inr apart ↦ aside-in_call caller call before s s' now (begins-aside s caller other begun s' apart moved.1)
    ]
moved-in_call g s caller call before (steps other) s' sound has now moved busy =
    elim (cases_eq other caller) [
      | inl same ↦ step-in_call g s caller call before s' sound has now (subst (λ i. Step s i s') same moved.1) busy
      | inr apart ↦ aside-in_call caller call before s s' now (steps-aside s caller other s' apart moved.1)
    ]
