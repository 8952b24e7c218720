-- What the retired list and the turn limit make of what follows a step.
use Rattle.std.proofs.Common.{ℕ, true, false, ◌≡◌, List, Option, Some, None, inl, inr, ◌<◌, ◌^◌, refl, sym, subst, arith}
use Rattle.std.specs.Prelude.{IsTrue}
use Rattle.std.proofs.lemmas.Bool.{cases_Bool}
use Rattle.heap_geometry.specs.declared.geometry.Geometry.{Geometry}
use Rattle.word_table.specs.Actions.{is_won}
use Rattle.word_table.specs.Seats.{SeatFields}
use Rattle.word_table.specs.declared.action.Found.{Found}
use Rattle.step_parts.specs.hazard.Retired.{first_unheld}
use Rattle.pool_model.specs.declared.event.Event.{Event}
use Rattle.errand_steps.specs.declared.next.Next.{Next}
use Rattle.errand_steps.specs.declared.next.Next.TheVariants as next
use Rattle.errand_steps.specs.declared.continuation.Continuation.{Continuation}
use Rattle.errand_steps.specs.declared.point.Point.{Point}
use Rattle.errand_steps.specs.declared.point.Point.TheVariants as point
use Rattle.errand_steps.specs.declared.reply.Reply.TheVariants as reply
use Rattle.errand_steps.specs.Calls.{Call}
use Rattle.errand_steps.specs.Errands.{ErrandFields, IsErrand, plan_of, after_list, after_turn, course_of, is_full, is_spent, picked}
use Rattle.errand_steps.specs.Events.{event_of}
use Rattle.errand_steps.specs.Fits.{FitsPoint, spare_of, pushed_by}
use Rattle.errand_steps.specs.Nexts.{next_of, resumed}
use Rattle.errand_steps.specs.Continuations.{resumes}
use Rattle.errand_steps.specs.Points.{plan_point_of}
use Rattle.errand_steps.specs.Steps.{with_event}
use Rattle.errand_steps.proofs.NextLemmas.{Follows}
use Rattle.errand_steps.proofs.StepLemmas.{follows-next}
use Rattle.errand_steps.specs.tables.CallStage.{asking, continuation_stage}
use Rattle.sound_laws.specs.events.Stages.{stage_of}
use Rattle.sound_laws.specs.events.UnderWay.{SoFar}
use Rattle.sound_laws.proofs.events_lemmas.LeadsDefs.{still, over, outcome_of, SoFarAt, Leads}
use Rattle.sound_laws.proofs.events_lemmas.PointEvents.{block-leads, stack-leads, desc-leads, partial-leads, large-leads}
use Rattle.sound_laws.proofs.events_lemmas.SoFarLemmas.{so-leads}

-- the stage at a point of any part leads on by the event of a step there
point-leads :
    (g : Geometry) (caller : ℕ) (p : Point) (x : Found) → FitsPoint g caller p → x.won ≡ is_won (plan_point_of p) x.value
    → Leads caller (stage_of p) (event_of caller p x) (outcome_of (next_of p x))
unfolding plan_point_of event_of
point-leads g caller point.Idle x fits won = grind (arith)
point-leads g caller (point.Block p o) x fits won = block-leads caller p o x fits.goes
point-leads g caller (point.Stack p o) x fits won = stack-leads caller p o x fits.goes
point-leads g caller (point.Desc p o) x fits won = desc-leads caller p o x fits.goes
point-leads g caller (point.Partial p o) x fits won = partial-leads caller p o x fits.goes
point-leads g caller (point.Large p o) x fits won = large-leads caller p o x fits.goes won

-- a retirement leads to a scan, and to what is resumed
scan-leads : (caller : ℕ) (s : SeatFields) (o : Continuation) → IsTrue (resumes o) → Leads caller (continuation_stage false s o) None (still (continuation_stage true s o))
scan-leads caller s o goes = grind (arith)

resumed-leads :
    (e : ErrandFields) (caller : ℕ) (s : SeatFields) (o : Continuation) → IsTrue (resumes o)
    → Leads caller (continuation_stage false s o) None (outcome_of (after_turn e (resumed s o)))
resumed-leads e caller s o goes = grind (arith)

-- a scan picks at a point that adds no event
pick-none : (caller : ℕ) (p : Point) (x : Found) (s : SeatFields) (held : List ℕ) (o : Continuation) → next_of p x ≡ next.Pick s held o → event_of caller p x ≡ None
unfolding next_of event_of
pick-none caller point.Idle x s held o is = grind (arith)
pick-none caller (point.Block p q) x s held o is = grind (arith)
pick-none caller (point.Stack p q) x s held o is = grind (arith)
pick-none caller (point.Desc p q) x s held o is = grind (arith)
pick-none caller (point.Partial p q) x s held o is = grind (arith)
pick-none caller (point.Large p q) x s held o is = grind (arith)

-- the events so far of a call stand, whatever the list and the turn limit make of what follows
so-course :
    (e : ErrandFields) (caller : ℕ) (call : Call) (spare : ℕ) (pushed : Option ℕ) (n : Next) (es : List Event)
    → Follows e.geometry e.caller spare pushed n → SoFarAt caller call (outcome_of n) es
    → ((s : SeatFields) (held : List ℕ) (o : Continuation) → n ≡ next.Pick s held o → SoFar caller call (stage_of e.point) es)
    → SoFarAt caller call (outcome_of (after_turn e (after_list e n))) es
so-course e caller call spare pushed (next.At p) es follows so stays = so
so-course e caller call spare pushed (next.End r) es follows so stays = so
so-course e caller call spare pushed (next.Turn s w) es follows so stays =
    elim (cases_Bool (is_spent e)) [
      | inl spent ↦ rw spent (so-leads caller call (asking w s.class false) None (over reply.Spent) es so tt)
      | inr left ↦ rw left so
    ]
so-course e caller call spare pushed (next.Retire s d o) es follows so stays =
    elim (cases_Bool (is_full e)) [
      | inl full ↦ rw full (so-leads caller call (continuation_stage false s o) None (still (continuation_stage true s o)) es so (scan-leads caller s o follows.fits.1.goes))
      | inr room ↦
          rw room (so-leads caller call (continuation_stage false s o) None (outcome_of (after_turn e (resumed s o))) es so (resumed-leads e caller s o follows.fits.1.goes))
    ]
so-course e caller call spare pushed (next.Unlist s d o) es follows so stays =
    so-leads caller call (continuation_stage false s o) None (outcome_of (after_turn e (resumed s o))) es so (resumed-leads e caller s o follows.fits.goes)
so-course e caller call spare pushed (next.Pick s held o) es follows so stays =
    so-picked (first_unheld held e.retired)
  where
    so-picked : (d : Option ℕ) → SoFarAt caller call (outcome_of (after_turn e (picked e s o d))) es
    so-picked None = stays s held o refl
    so-picked (Some d) = so-leads caller call (continuation_stage false s o) None (still (continuation_stage true s o)) es so (scan-leads caller s o follows.fits.goes)

-- a step of an errand adds the next event of its call
pub step-adds :
    (e : ErrandFields) (x : Found) (call : Call) (es : List Event) → IsErrand e → x.value < 2 ^ 64
    → x.won ≡ is_won (plan_of e) x.value → SoFar e.caller call (stage_of e.point) es
    → SoFarAt e.caller call (outcome_of (course_of e x)) (with_event es (event_of e.caller e.point x))
unfolding course_of
step-adds e x call es rule word won so =
    let event = event_of e.caller e.point x in
    let next = next_of e.point x in
    let after = so-leads e.caller call (stage_of e.point) event (outcome_of next) es so (point-leads e.geometry e.caller e.point x rule.point won) in
    so-course e e.caller call (spare_of e.point) (pushed_by e.point) next (with_event es event)
    (follows-next e.geometry e.caller e.point x rule.geometry word rule.point) after
    (λ s held o is.
    subst (λ v. SoFar e.caller call (stage_of e.point) (with_event es v)) (sym (pick-none e.caller e.point x s held o is)) so)
