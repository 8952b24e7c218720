-- A call that was made without an errand, and goes on by it.
use Rattle.std.proofs.Common.{ℕ, ◌≡◌, ◌<◌, ◌-◌, inl, inr, Option, None, Some, refl, sym, ap, ◌∙◌, subst, arith}
use Rattle.word_table.specs.declared.action.Found.{Found as Find}
use Rattle.step_parts.specs.declared.superblock.point.BlockPoint.{BlockPoint}
use Rattle.errand_steps.specs.declared.continuation.Continuation.{Continuation}
use Rattle.errand_steps.specs.declared.reply.Progress.{Progress}
use Rattle.errand_steps.specs.declared.reply.Progress.TheVariants.{Idle, More, Lost, Cleared, Done}
use Rattle.errand_steps.specs.declared.reply.Reply.{Reply}
use Rattle.errand_steps.specs.Offers.{offered_at}
use Rattle.errand_steps.specs.declared.reply.Offer.{Offer}
use Rattle.errand_steps.specs.declared.told.Ending.{Ending}
use Rattle.errand_steps.specs.Errands.{ErrandFields, answer_of, settle_of}
use Rattle.errand_steps.specs.Told.{IsTellable}
use Rattle.step_machine.specs.Moments.{IsMoment}
use Rattle.live_heap.specs.declared.block.Block.{Block}
use Rattle.live_heap.specs.Heaps.{HeapFields}
use Rattle.live_heap.specs.declared.pass.Pass.{Pass}
use Rattle.live_heap.specs.Passes.{IsOf, IsOneStep, seen, view}
use Rattle.live_heap.specs.Sights.{TakesStep, found_in}
use Rattle.live_heap.specs.Answers.{reply_of}
use Rattle.live_heap.specs.Going.{HasGone, HasWalked, IsGoing, Rejoins, at_block, stands_at}
use Rattle.live_heap.proofs.CallsCounts.{goes-cleared, goes-lost, going-again, going-ends, going-further, going-grows, never-idle}
use Rattle.live_heap.proofs.Stepped.{still-of, took-access, took-step}
use Rattle.step_machine.proofs.TellLemmas.{moment-tellable}

-- the errand of a call whose seat has made the step stands where the step began
pub rejoins :
    (h : HeapFields) (start : Pass) (tries : ℕ) (p : BlockPoint) (o : Continuation) (x : Find) (r : Pass) → HasWalked h start tries p o x r
    → (f : ErrandFields) → f ≡ at_block r.errand p o → Rejoins h start tries x (record { seat = r.seat; errand = f; out = r.out })
rejoins h start tries p o x r w f is =
    record {
      last = stands_at (record { seat = w.seat; errand = r.errand; out = r.out }) p o;
      of = w.walks.of;
      going = w.walks.going;
      stands = is;
      offers = refl;
      has = w.has;
      table = w.table;
      empty = w.empty;
      out = refl;
    }

-- the pass whose errand has caught up with the step of its seat
module _
    (h : HeapFields) (start : Pass) (tries : ℕ) (found : Find) (p : Pass) (j : Rejoins h start tries found p) (q : Pass)
    (answer : Progress) (seat : q.seat ≡ p.seat) (out : q.out ≡ p.out) (is : q.errand ≡ settle_of p.errand found) (told : answer ≡ answer_of p.errand found) where
  abbrev last : Pass
  last = j.last

  settled : q.errand ≡ settle_of last.errand (found_in last.errand j.has.0)
  settled = is ∙ (ap (λ (e : ErrandFields). settle_of e found) j.stands ∙ j.has.2)

  answered : answer ≡ answer_of last.errand (found_in last.errand j.has.0)
  answered = told ∙ (ap (λ (e : ErrandFields). answer_of e found) j.stands ∙ j.has.3)

  stepped : TakesStep last.errand j.has.0 (view last) (view q)
  stepped = subst (λ s. TakesStep last.errand j.has.0 (view last) s.me.0) (sym seat) j.has.1

  pub joins-of : IsOf h q
  joins-of =
      still-of h last q j.has.0 j.of (ap (λ s. s.region) seat ∙ j.table) (ap (λ s. s.me.1) seat ∙ j.empty) (out ∙ j.out) settled stepped

  pub joins-moment : IsMoment last.errand q.errand (seen last) (seen q) answer
  joins-moment = took-step last q j.has.0 answer settled answered stepped

  joins-access : IsOneStep last q
  joins-access = took-access last.errand last q j.has.0 stepped

  -- how the call's tries stand behind that step, by what it came to
  pub joins-more : 0 < tries → answer ≡ More → IsGoing h start tries tries q
  joins-more some more =
      going-further h start tries tries last q j.of some j.going (subst (IsMoment last.errand q.errand (seen last) (seen q)) more joins-moment) joins-access

  pub joins-lost : 0 < tries → answer ≡ Lost → IsGoing h start tries (tries - 1) q
  joins-lost some lost =
      let m = subst (IsMoment last.errand q.errand (seen last) (seen q)) lost joins-moment in
      going-again h start tries tries last q j.of some j.going Lost (tries - 1) (omega (arith, some)) m joins-access (inl refl)
      (goes-lost last.errand q.errand (seen last) (seen q) m)

  pub joins-cleared : 0 < tries → answer ≡ Cleared → IsGoing h start tries (tries - 1) q
  joins-cleared some cleared =
      let m = subst (IsMoment last.errand q.errand (seen last) (seen q)) cleared joins-moment in
      going-again h start tries tries last q j.of some j.going Cleared (tries - 1) (omega (arith, some)) m joins-access (inr refl)
      (goes-cleared last.errand q.errand (seen last) (seen q) m)

  pub joins-never : answer ≡ Idle → ⊥
  joins-never idle = never-idle last.errand q.errand (seen last) (seen q) (subst (IsMoment last.errand q.errand (seen last) (seen q)) idle joins-moment)

  pub joins-ends :
      0 < tries → (r : Reply) → answer ≡ Done r → (ending : Ending Block) → reply_of ending ≡ r → HasGone h start tries (Some ending) q
  joins-ends some r done ending is =
      record {
        of = joins-of;
        grows = going-grows h start tries tries last q j.of some j.going answer joins-moment;
        goes = going-ends h start tries tries last q j.of some j.going (reply_of ending)
            (subst (IsMoment last.errand q.errand (seen last) (seen q)) (done ∙ ap Done (sym is)) joins-moment) joins-access;
      }

  pub joins-tellable : (r : Reply) → answer ≡ Done r → IsTellable None (Done r)
  joins-tellable r done =
      subst (λ (o : Option Offer). IsTellable o (Done r)) j.offers
      (subst (IsTellable (offered_at last.errand.point)) done
      (moment-tellable last.errand q.errand (seen last) (seen q) answer joins-moment))
