-- What is under way after a step, and what has ended.
use Rattle.std.proofs.Common.{ℕ, Bool, false, ◌≡◌, List, ◌<◌, ◌^◌, subst, arith}
use Rattle.std.proofs.lemmas.Bool.{true≢false}
use Rattle.word_table.specs.Actions.{is_won}
use Rattle.word_table.specs.declared.action.Found.{Found}
use Rattle.pool_model.specs.declared.event.Event.{Event}
use Rattle.errand_steps.specs.Begins.{IsBusy}
use Rattle.errand_steps.specs.Calls.{Call}
use Rattle.errand_steps.specs.Errands.{ErrandFields, IsErrand, plan_of, settle_of, answer_of, course_of, point_after, told, counts_lost, counts_cleared}
use Rattle.errand_steps.specs.Events.{event_of}
use Rattle.errand_steps.specs.Points.{is_idle}
use Rattle.errand_steps.specs.Steps.{with_event}
use Rattle.errand_steps.specs.declared.next.Next.{Next}
use Rattle.errand_steps.specs.declared.next.Next.TheVariants as next
use Rattle.errand_steps.specs.declared.reply.Reply.{Reply}
use Rattle.errand_steps.specs.declared.reply.Progress.TheVariants.{Done}
use Rattle.sound_laws.specs.events.Ends.{HasEnded}
use Rattle.sound_laws.specs.events.UnderWay.{IsUnderWay}
use Rattle.sound_laws.proofs.events_lemmas.CourseLemmas.{step-adds}
use Rattle.sound_laws.proofs.events_lemmas.LeadsDefs.{outcome_of, SoFarAt}

-- a call that goes on stands at a point
goes-at :
    (caller : ℕ) (call : Call) (n : Next) (es : List Event) → SoFarAt caller call (outcome_of n) es → is_idle (point_after n) ≡ false
    → IsUnderWay caller call (point_after n) es
goes-at caller call (next.At p) es so busy = so
goes-at caller call n es so busy = absurd (true≢false busy)

pub step-goes_on :
    (e : ErrandFields) (x : Found) (call : Call) (es : List Event) → IsErrand e → x.value < 2 ^ 64
    → x.won ≡ is_won (plan_of e) x.value → IsUnderWay e.caller call e.point es → IsBusy (settle_of e x)
    → IsUnderWay e.caller call (settle_of e x).point (with_event es (event_of e.caller e.point x))
unfolding settle_of
step-goes_on e x call es rule word won so busy =
    goes-at e.caller call (course_of e x) (with_event es (event_of e.caller e.point x)) (step-adds e x call es rule word won so) busy

-- a call that has ended has answered
reply-told : (n : Next) (lost cleared : Bool) (r : Reply) → told n lost cleared ≡ Done r → n ≡ next.End r
reply-told n lost cleared r is = grind (arith)

pub step-ends :
    (e : ErrandFields) (x : Found) (call : Call) (es : List Event) (r : Reply) → IsErrand e → x.value < 2 ^ 64
    → x.won ≡ is_won (plan_of e) x.value → IsUnderWay e.caller call e.point es → answer_of e x ≡ Done r
    → HasEnded e.caller call r (with_event es (event_of e.caller e.point x))
unfolding answer_of
step-ends e x call es r rule word won so is =
    let all = with_event es (event_of e.caller e.point x) in
    subst (λ n. SoFarAt e.caller call (outcome_of n) all)
    (reply-told (course_of e x) (counts_lost e.point x) (counts_cleared e.point x) r is) (step-adds e x call es rule word won so)
