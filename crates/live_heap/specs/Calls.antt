-- A call of a pass: it begins, and makes one step after the other until it ends.
use Rattle.std.specs.Prelude.{ℕ, zero, suc, ◌≡◌, ◌<◌, ◌+◌, ◌*◌, ◌-◌, ◌^◌, ◌⊎◌, List, ◌++◌, Option, Some, None}
use Rattle.heap_geometry.specs.declared.limits.TheConstants.{CALL_STEPS}
use Rattle.pool_model.specs.declared.event.Event.{Event}
use Rattle.pool_model.specs.Histories.{own}
use Rattle.errand_steps.specs.declared.reply.Progress.{Progress}
use Rattle.errand_steps.specs.declared.reply.Progress.TheVariants.{Cleared, Done, Lost}
use Rattle.errand_steps.specs.declared.reply.Reply.{Reply}
use Rattle.errand_steps.specs.Begins.{IsBusy, IsIdle}
use Rattle.errand_steps.specs.Calls.{Call, begun_by}
use Rattle.errand_steps.specs.Errands.{ErrandFields}
use Rattle.sound_laws.specs.events.Ends.{HasEnded}
use Rattle.sound_laws.specs.events.UnderWay.{IsUnderWay}
use Rattle.step_machine.specs.Moments.{IsMoment}
use Rattle.live_heap.specs.declared.pass.Pass.{Pass}
use Rattle.live_heap.specs.Passes.{accesses, seen, view}

-- from the errand e, and from these events that were seen, so many steps of a pass led to f and to those, and its call went on after each
abbrev pub StepsOn : ErrandFields → List Event → ℕ → ErrandFields → List Event → Type 0
StepsOn e before zero f after = (f ≡ e) × (after ≡ before)
StepsOn e before (suc steps) f after =
    (last : ErrandFields) × (sight : List Event) × (answer : Progress)
    × StepsOn e before steps last sight × IsMoment last f sight after answer × IsBusy f

-- since it stood as `first`, a pass has begun this call and made so many steps of it, which are its only accesses to shared words that count. It is in the call, and all events that its caller has added since are the call's so far
pub record IsCalling (first : Pass) (call : Call) (steps : ℕ) (p : Pass) : Type 0 where
  pub caller : p.errand.caller ≡ first.errand.caller
  pub on : StepsOn (begun_by first.errand call) (seen first) steps p.errand (seen p)
  pub accesses : accesses p ≡ steps + accesses first
  pub busy : IsBusy p.errand
  pub added : List Event
  pub events : own first.errand.caller (seen p) ≡ own first.errand.caller (seen first) ++ added
  pub under_way : IsUnderWay first.errand.caller call p.errand.point added
  pub lent : (view p).lent ≡ (view first).lent

-- one step and one access more have ended the call with this reply, and all events that its caller has added since are those of a call that ends so
pub record HasCalled (first : Pass) (call : Call) (steps : ℕ) (reply : Reply) (q : Pass) : Type 0 where
  pub caller : q.errand.caller ≡ first.errand.caller
  pub idle : IsIdle q.errand
  pub last : ErrandFields
  pub sight : List Event
  pub on : StepsOn (begun_by first.errand call) (seen first) steps last sight
  pub moment : IsMoment last q.errand sight (seen q) (Done reply)
  pub accesses : accesses q ≡ suc (steps + accesses first)
  pub added : List Event
  pub events : own first.errand.caller (seen q) ≡ own first.errand.caller (seen first) ++ added
  pub ended : HasEnded first.errand.caller call reply added
  pub lent : (view q).lent ≡ (view first).lent

-- how many exchanges a caller lost and how many empty superblocks it cleared, together
abbrev pub tries_of : ErrandFields → ℕ
tries_of e = e.lost + e.cleared

-- a call that had made so many steps when the pass stood at p has ended since, by a step before which fewer steps than there were tries had lost or cleared
pub record EndsInTime (first : Pass) (call : Call) (made : ℕ) (p : Pass) (tries : ℕ) (reply : Reply) (q : Pass) : Type 0 where
  pub steps : ℕ
  pub called : HasCalled first call steps reply q
  pub few : steps < made + CALL_STEPS * tries
  pub in_time : tries_of called.last < tries_of p.errand + tries

-- a step that goes on counts as a try: it lost an exchange, or cleared an empty superblock
abbrev pub IsTry : Progress → Type 0
IsTry answer = (answer ≡ Lost) ⊎ (answer ≡ Cleared)

-- a call is still under way: its last step has lost or cleared; before that fewer steps had than there were tries, with it as many have. A count of lost ones that stands at its end shows no more of them
pub record IsInterrupted (first : Pass) (call : Call) (made : ℕ) (p : Pass) (tries : ℕ) (q : Pass) : Type 0 where
  pub steps : ℕ
  pub calling : IsCalling first call (suc steps) q
  pub few : steps < made + CALL_STEPS * tries
  pub last_tried : IsTry calling.on.2
  pub in_time : tries_of calling.on.0 < tries_of p.errand + tries
  pub spent : q.errand.lost < 2 ^ 64 - 1 → tries_of q.errand ≡ tries_of p.errand + tries

-- a call has ended in time where there is a reply, and is interrupted where there is none
abbrev pub GoesOn : Pass → Call → ℕ → Pass → ℕ → Option Reply → Pass → Type 0
GoesOn first call made p tries None q = IsInterrupted first call made p tries q
GoesOn first call made p tries (Some reply) q = EndsInTime first call made p tries reply q
