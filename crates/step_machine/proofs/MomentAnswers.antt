-- What the moment of a step tells: where its errand goes, and what it answers is so.
use Rattle.std.proofs.Common.{ℕ, ◌≡◌, List, refl, sym, ap, ◌∙◌, subst}
use Rattle.heap_geometry.specs.declared.need.Need.{Need}
use Rattle.word_table.specs.declared.action.Found.{Found as Find}
use Rattle.pool_model.specs.declared.event.Event.{Event}
use Rattle.errand_steps.specs.declared.reply.Progress.{Progress}
use Rattle.errand_steps.specs.declared.reply.Progress.TheVariants as progress
use Rattle.errand_steps.specs.declared.reply.Reply.{Reply}
use Rattle.errand_steps.specs.declared.reply.Reply.TheVariants as reply
use Rattle.errand_steps.specs.Begins.{IsBusy}
use Rattle.errand_steps.specs.Errands.{ErrandFields, settle_of, answer_of}
use Rattle.errand_steps.specs.Steps.{found_at}
use Rattle.sound_state.specs.Answers.{IsMeant}
use Rattle.sound_state.specs.Recalls.{IsOwned}
use Rattle.sound_state.specs.Sound.{IsSound, IsOwnErrand}
use Rattle.sound_state.proofs.CountedLemmas.{without-counts, steps-counted}
use Rattle.sound_state.proofs.answers.StepAnswers.{answers-meant}
use Rattle.step_machine.specs.Cores.{OwnsAfter}
use Rattle.step_machine.specs.Moments.{IsMoment}

-- a step leaves the caller's number and its heap
pub settle-caller : (e : ErrandFields) (x : Find) → (settle_of e x).caller ≡ e.caller
unfolding settle_of
settle-caller e x = refl

pub settle-geometry : (e : ErrandFields) (x : Find) → (settle_of e x).geometry ≡ e.geometry
unfolding settle_of
settle-geometry e x = refl

module _ (e f : ErrandFields) (before after : List Event) (answer : Progress) (m : IsMoment e f before after answer) where
  -- what the step found
  abbrev pub found : Find
  found = found_at m.state e.caller

  -- the errand goes on by what the step found
  pub moment-settles : f ≡ settle_of e found
  moment-settles = sym m.there ∙ (m.step.errand.here ∙ ap (λ x. settle_of x found) m.here)

  pub moment-busy : IsBusy e
  moment-busy = subst IsBusy m.here m.step.busy

  pub moment-sound : IsSound e.geometry m.next
  moment-sound = steps-counted e.geometry m.state e.caller m.next m.sound m.has m.step

  pub moment-own : IsOwnErrand e.geometry e.caller e
  moment-own = subst (IsOwnErrand e.geometry e.caller) m.here (m.sound.parts.1.formed.errands e.caller m.has)

  pub moment-own_after : IsOwnErrand e.geometry e.caller f
  moment-own_after = subst (IsOwnErrand e.geometry e.caller) m.there (moment-sound.parts.1.formed.errands e.caller m.has)

  -- the reply with which the step ends its call is so
  pub moment-meant : (r : Reply) → answer ≡ progress.Done r → IsMeant e.geometry m.state e.caller r m.next
  moment-meant r is =
      answers-meant e.geometry m.state e.caller r m.next (without-counts e.geometry m.state m.sound) m.has m.step
      (ap (λ x. answer_of x found) m.here ∙ (sym m.answers ∙ is))

  pub moment-caller : f.caller ≡ e.caller
  moment-caller = ap (λ (d : ErrandFields). d.caller) moment-settles ∙ settle-caller e found

  pub moment-geometry : f.geometry ≡ e.geometry
  moment-geometry = ap (λ (d : ErrandFields). d.geometry) moment-settles ∙ settle-geometry e found

  -- what the caller owns in the state after the step it owns by the events seen then
  pub moment-owns : (place : ℕ) (need : Need) → IsOwned m.next e.caller place need → OwnsAfter after f.caller place need
  moment-owns place need owned =
      subst (λ c. OwnsAfter after c place need) (sym moment-caller) (subst (λ h. OwnsAfter h e.caller place need) m.now owned.block)

  -- a block that the step's reply gives, or got from a shelf, is the caller's
  pub moment-given : (place : ℕ) (need : Need) → answer ≡ progress.Done (reply.Given place need) → OwnsAfter after f.caller place need
  moment-given place need is = moment-owns place need (moment-meant (reply.Given place need) is).3

  pub moment-got : (place : ℕ) (need : Need) → answer ≡ progress.Done (reply.Got place need) → OwnsAfter after f.caller place need
  moment-got place need is = moment-owns place need (moment-meant (reply.Got place need) is).2
