-- The answer of a step can be told with the block in hand.
use Rattle.std.proofs.Common.{ℕ, ◌≡◌, List, IsSomeAnd, refl, sym, ap, ◌∙◌, subst}
use Rattle.heap_geometry.specs.declared.need.Need.{Need}
use Rattle.heap_geometry.specs.Need.{IsNeed}
use Rattle.pool_model.specs.declared.event.Event.{Event}
use Rattle.errand_steps.specs.declared.point.Point.{Point}
use Rattle.errand_steps.specs.declared.reply.Offer.{Offer}
use Rattle.errand_steps.specs.declared.reply.Progress.{Progress}
use Rattle.errand_steps.specs.declared.reply.Progress.TheVariants as progress
use Rattle.errand_steps.specs.declared.reply.Reply.{Reply}
use Rattle.errand_steps.specs.declared.reply.Reply.TheVariants as reply
use Rattle.errand_steps.specs.Errands.{ErrandFields}
use Rattle.errand_steps.specs.Offers.{offered_at}
use Rattle.errand_steps.specs.Told.{IsTellable}
use Rattle.sound_state.specs.Answers.{IsMeant}
use Rattle.sound_state.specs.Recalls.{IsOwned}
use Rattle.sound_state.proofs.CountedLemmas.{without-counts}
use Rattle.sound_state.proofs.beginnings.BegunLemmas.{owned-block}
use Rattle.step_machine.specs.Moments.{IsMoment}
use Rattle.step_machine.proofs.MomentAnswers.{moment-meant, moment-sound}

module _ (e f : ErrandFields) (before after : List Event) (answer : Progress) (m : IsMoment e f before after answer) where
  abbrev meant : (r : Reply) → answer ≡ progress.Done r → IsMeant e.geometry m.state e.caller r m.next
  meant = moment-meant e f before after answer m

  -- a block that the caller owns behind the step serves some need
  owned-need : (place : ℕ) (need : Need) → IsOwned m.next e.caller place need → IsNeed need
  owned-need place need owned =
      (owned-block e.geometry m.next e.caller place need (without-counts e.geometry m.next (moment-sound e f before after answer m)) owned).0

  reply-tellable : (r : Reply) → IsMeant e.geometry m.state e.caller r m.next → IsTellable (offered_at e.point) (progress.Done r)
  reply-tellable (reply.Given place need) (words, allocates, serves, owned) = owned-need place need owned
  reply-tellable reply.Refused meant = tt
  reply-tellable reply.Spent meant = tt
  reply-tellable reply.Freed meant = tt
  reply-tellable reply.Wrote meant = tt
  reply-tellable (reply.Word word) meant = tt
  reply-tellable reply.Put meant = tt
  reply-tellable (reply.Full word) (shelf, place, need, stands, owned, holds) =
      let P : Point → Type 0 = λ p. IsSomeAnd (offered_at p) (λ (own : Offer). IsNeed own.need) in
      let here : (m.state.errand e.caller).point ≡ e.point = ap (λ (x : ErrandFields). x.point) m.here in
      subst P (sym stands.1 ∙ here) (owned-need place need owned)
  reply-tellable (reply.Got place need) (shelf, tells, owned) = owned-need place need owned
  reply-tellable reply.Empty meant = tt
  reply-tellable (reply.Missed expected found) meant = tt

  -- the answer of a step can be told
  tellable : (a : Progress) → answer ≡ a → IsTellable (offered_at e.point) a
  tellable progress.Idle is = tt
  tellable progress.More is = tt
  tellable progress.Lost is = tt
  tellable progress.Cleared is = tt
  tellable (progress.Done r) is = reply-tellable r (meant r is)

  pub moment-tellable : IsTellable (offered_at e.point) answer
  moment-tellable = tellable answer refl
