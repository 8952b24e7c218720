-- A call of a pass grows by each step: it goes on, or has ended.
use Rattle.std.proofs.Common.{ℕ, suc, ◌≡◌, ◌≢◌, ◌<◌, ◌^◌, ◌⊎◌, inl, inr, true, List, [], ◌++◌, Option, Some, refl, sym, ap, ◌∙◌, subst, arith}
use Rattle.std.proofs.lemmas.Bool.{cases_Bool}
use Rattle.std.proofs.lemmas.List.{append-nil}
use Rattle.atomic_region.specs.declared.shared.Seat.{Seat}
use Rattle.heap_geometry.specs.declared.limits.TheConstants.{CALL_STEPS}
use Rattle.packed_words.specs.declared.widths.TheConstants.{TAG_BITS}
use Rattle.word_table.specs.Actions.{is_won}
use Rattle.word_table.specs.declared.action.Found.{Found as Find}
use Rattle.pool_model.specs.declared.event.Event.{Event}
use Rattle.pool_model.specs.Histories.{caller_of, own}
use Rattle.errand_steps.specs.Begins.{IsBusy, IsIdle, alloc_answer}
use Rattle.errand_steps.specs.Calls.{Call, alloc}
use Rattle.errand_steps.specs.declared.reply.Begun.TheVariants as begun
use Rattle.errand_steps.specs.Errands.{ErrandFields, IsErrand, plan_of, settle_of, answer_of, counts_lost, counts_cleared}
use Rattle.errand_steps.specs.Events.{event_of}
use Rattle.errand_steps.specs.Points.{is_idle}
use Rattle.errand_steps.specs.Steps.{with_event, found_at, event_at, name_at}
use Rattle.errand_steps.specs.declared.reply.Progress.{Progress}
use Rattle.errand_steps.specs.declared.reply.Progress.TheVariants.{Done}
use Rattle.errand_steps.specs.declared.reply.Reply.{Reply}
use Rattle.errand_steps.proofs.AnswerLemmas.{done-told}
use Rattle.errand_steps.proofs.EventLemmas.{event_own}
use Rattle.sound_laws.specs.events.Ends.{HasEnded}
use Rattle.sound_laws.specs.events.UnderWay.{IsAboutBlock, IsUnderWay}
use Rattle.sound_laws.proofs.events_lemmas.AnswerLemmas.{step-goes_on, step-ends}
use Rattle.sound_laws.proofs.events_lemmas.BeginsLemmas.{call-begins, started-busy, other-busy}
use Rattle.sound_laws.specs.bounds.StepsLeft.{steps_left}
use Rattle.sound_state.proofs.CountedLemmas.{without-counts}
use Rattle.sound_laws.proofs.bounds_lemmas.LeftMost.{left-most}
use Rattle.sound_laws.proofs.bounds_lemmas.LeftSteps.{steps-go_on}
use Rattle.sound_laws.proofs.events_lemmas.OwnEvents.{own-with_event, added-event}
use Rattle.sound_state.proofs.shared.ClearedLemmas.{cleared-far}
use Rattle.step_machine.specs.Moments.{IsMoment}
use Rattle.step_machine.proofs.MomentAnswers.{moment-own_after, settle-caller}
use Rattle.live_heap.specs.declared.pass.Pass.{Pass}
use Rattle.live_heap.specs.declared.view.View.{View}
use Rattle.live_heap.specs.Answers.{HasBegun}
use Rattle.live_heap.specs.Calls.{HasCalled, IsCalling}
use Rattle.live_heap.specs.Passes.{IsOneStep, accesses_of, seen}
use Rattle.live_heap.proofs.Growing.{own-more}
use Rattle.live_heap.proofs.Moves.{begun-caller}

-- a step leaves fewer steps, unless it lost or cleared
abbrev pub IsShorter : ErrandFields → Find → ErrandFields → Type 0
IsShorter e x f =
    (counts_lost e.point x ≡ true) ⊎ (counts_cleared e.point x ≡ true)
    ⊎ (steps_left e.geometry f.point < steps_left e.geometry e.point)

-- a step of a caller, over events: its errand goes on by what its action found, and the events gain that of the step behind those of others
pub record IsSettled (e f : ErrandFields) (before after : List Event) (answer : Progress) : Type 0 where
  pub x : Find
  pub rule : IsErrand e
  pub cleared : e.cleared < 2 ^ TAG_BITS
  pub busy : IsBusy e
  pub word : x.value < 2 ^ 64
  pub won : x.won ≡ is_won (plan_of e) x.value
  pub settled : f ≡ settle_of e x
  pub answers : answer ≡ answer_of e x
  pub between : List Event
  pub not_own : own e.caller between ≡ []
  pub seen_then : after ≡ with_event (before ++ between) (event_of e.caller e.point x)
  pub shorter : IsShorter e x f
  pub short : steps_left e.geometry f.point < CALL_STEPS

pub settled-of :
    (e f : ErrandFields) (before after : List Event) (answer : Progress) → IsMoment e f before after answer
    → IsSettled e f before after answer
settled-of e f before after answer m =
    let x : Find = found_at m.state e.caller in
    let own_errand = m.sound.parts.1.formed.errands e.caller m.has in
    let counted = without-counts e.geometry m.state m.sound in
    let own_then = moment-own_after e f before after answer m in
    let left : steps_left f.geometry f.point < CALL_STEPS = left-most f.geometry f.caller f.point own_then.rule.geometry own_then.rule.point in
    record {
      x = x;
      rule = subst IsErrand m.here own_errand.rule;
      cleared = subst (λ (d : ErrandFields). d.cleared < 2 ^ TAG_BITS) m.here (cleared-far e.geometry m.state e.caller counted m.has);
      busy = subst IsBusy m.here m.step.busy;
      word = m.sound.parts.1.formed.words (name_at m.state e.caller);
      won = subst (λ (d : ErrandFields). x.won ≡ is_won (plan_of d) x.value) m.here refl;
      settled = sym m.there ∙ m.step.errand.here ∙ ap (λ (d : ErrandFields). settle_of d x) m.here;
      answers = m.answers;
      between = m.between;
      not_own = m.not_own;
      seen_then =
          sym m.now ∙ m.step.history ∙ ap (λ h. with_event h (event_at m.state e.caller)) m.seen
          ∙ ap (λ (d : ErrandFields). with_event (before ++ m.between) (event_of e.caller d.point x)) m.here;
      shorter =
          let G : ErrandFields → ErrandFields → Type 0 = λ d h.
          (counts_lost d.point x ≡ true) ⊎ (counts_cleared d.point x ≡ true)
          ⊎ (steps_left e.geometry h.point < steps_left e.geometry d.point) in
          subst (λ h. G e h) m.there
          (subst (λ d. G d (m.next.errand e.caller)) m.here (steps-go_on e.geometry m.state e.caller m.next counted m.has m.step));
      short = subst (λ g. steps_left g f.point < CALL_STEPS) own_then.geometry left;
    }

-- a caller whose step answers no end is still busy
pub busy-after :
    (e f : ErrandFields) (before after : List Event) (answer : Progress) (s : IsSettled e f before after answer)
    → ((r : Reply) → answer ≢ Done r) → IsBusy (settle_of e s.x)
busy-after e f before after answer s undone =
    elim (cases_Bool (is_idle (settle_of e s.x).point)) [
      | inl idle ↦ let done = (done-told e s.x s.busy).0 idle in absurd (undone done.0 (s.answers ∙ done.1))
      | inr going ↦ going
    ]

-- the caller's own events, with that of its step
own-stepped :
    (caller : ℕ) (before between after : List Event) (event : Option Event) → own caller between ≡ []
    → ((e : Event) → event ≡ Some e → caller_of e ≡ caller) → after ≡ with_event (before ++ between) event
    → own caller after ≡ with_event (own caller before) event
own-stepped caller before between after event none mine is =
    ap (own caller) is ∙ (own-with_event caller (before ++ between) event mine ∙ ap (λ l. with_event l event) (own-more caller before between none))

-- a pass that begins a call is in it, and has made no step of it
pub begins-calling :
    (p q : Pass) (call : Call) → HasBegun p call q → IsIdle p.errand → IsAboutBlock p.errand.geometry call → IsBusy q.errand
    → IsCalling p call 0 q
begins-calling p q call since idle about busy =
    let sees : seen q ≡ seen p = ap (λ (s : Seat View). s.me.0.seen) since.seat in
    record {
      caller = ap (λ (e : ErrandFields). e.caller) since.errand ∙ begun-caller p.errand call;
      on = (since.errand, sees);
      accesses = omega (arith, ap (λ (s : Seat View). accesses_of s.me.0.callers) since.seat);
      lent = ap (λ (s : Seat View). s.me.0.lent) since.seat;
      busy = busy;
      added = [];
      events = ap (own p.errand.caller) sees ∙ sym (append-nil (own p.errand.caller (seen p)));
      under_way =
          subst (λ (e : ErrandFields). IsUnderWay p.errand.caller call e.point []) (sym since.errand)
          (call-begins p.errand call idle about (subst IsBusy since.errand busy));
    }

-- an allocation that has started is under way, and so is every other call that has begun
pub alloc-calling :
    (p q : Pass) (words : ℕ) → HasBegun p (alloc words) q → IsIdle p.errand → alloc_answer p.errand words ≡ begun.Started
    → IsCalling p (alloc words) 0 q
alloc-calling p q words since idle answer =
    begins-calling p q (alloc words) since idle tt (subst IsBusy (sym since.errand) (started-busy p.errand words answer))

pub other-calling :
    (p q : Pass) (call : Call) → HasBegun p call q → IsIdle p.errand → IsAboutBlock p.errand.geometry call
    → ((words : ℕ) → call ≢ alloc words) → IsCalling p call 0 q
other-calling p q call since idle about other =
    begins-calling p q call since idle about (subst IsBusy (sym since.errand) (other-busy p.errand call about other))

-- a step of a pass that is in a call
module _
    (first : Pass) (call : Call) (steps : ℕ) (p q : Pass) (answer : Progress) (m : IsMoment p.errand q.errand (seen p) (seen q) answer)
    (one : IsOneStep p q) (c : IsCalling first call steps p) where
  abbrev s : IsSettled p.errand q.errand (seen p) (seen q) answer
  s = settled-of p.errand q.errand (seen p) (seen q) answer m

  abbrev event : Option Event
  event = event_of p.errand.caller p.errand.point s.x

  abbrev all : List Event
  all = with_event c.added event

  same_caller : q.errand.caller ≡ first.errand.caller
  same_caller = ap (λ (e : ErrandFields). e.caller) s.settled ∙ (settle-caller p.errand s.x ∙ c.caller)

  grown : own first.errand.caller (seen q) ≡ own first.errand.caller (seen first) ++ all
  grown =
      let one : own p.errand.caller (seen q) ≡ with_event (own p.errand.caller (seen p)) event =
      own-stepped p.errand.caller (seen p) s.between (seen q) event s.not_own (λ e is. event_own p.errand.caller p.errand.point s.x e is) s.seen_then in
      subst (λ k. own k (seen q) ≡ with_event (own k (seen p)) event) c.caller one
      ∙ (ap (λ l. with_event l event) c.events ∙ added-event (own first.errand.caller (seen first)) c.added event)

  way : IsUnderWay p.errand.caller call p.errand.point c.added
  way = subst (λ k. IsUnderWay k call p.errand.point c.added) (sym c.caller) c.under_way

  -- a step that doesn't end the call leaves it under way
  pub calls-further :
      ((r : Reply) → answer ≢ Done r) → (h : IsCalling first call (suc steps) q) × (h.on.0 ≡ p.errand) × (h.on.2 ≡ answer)
  calls-further on =
      let busy = busy-after p.errand q.errand (seen p) (seen q) answer s on in
      let still : IsBusy q.errand = subst IsBusy (sym s.settled) busy in (
        record {
          caller = same_caller;
          on = (p.errand, seen p, answer, c.on, m, still);
          accesses = omega (arith, one.0, c.accesses);
          lent = one.1 ∙ c.lent;
          busy = still;
          added = all;
          events = grown;
          under_way =
              subst (λ k. IsUnderWay k call q.errand.point all) c.caller
              (subst (λ (d : ErrandFields). IsUnderWay p.errand.caller call d.point all) (sym s.settled)
              (step-goes_on p.errand s.x call c.added s.rule s.word s.won way busy));
        },
        refl,
        refl,
      )

  pub calls-go_on : ((r : Reply) → answer ≢ Done r) → IsCalling first call (suc steps) q
  calls-go_on on = (calls-further on).0

  -- a step that answers with a reply has ended the call
  pub calls-end : (r : Reply) → answer ≡ Done r → (h : HasCalled first call steps r q) × (h.last ≡ p.errand)
  calls-end r is = (
    record {
      caller = same_caller;
      idle = subst IsIdle (sym s.settled) ((done-told p.errand s.x s.busy).1 (r, sym s.answers ∙ is));
      last = p.errand;
      sight = seen p;
      on = c.on;
      moment = subst (IsMoment p.errand q.errand (seen p) (seen q)) is m;
      accesses = omega (arith, one.0, c.accesses);
      lent = one.1 ∙ c.lent;
      added = all;
      events = grown;
      ended =
          subst (λ k. HasEnded k call r all) c.caller
          (step-ends p.errand s.x call c.added r s.rule s.word s.won way (sym s.answers ∙ is));
    },
    refl,
  )
