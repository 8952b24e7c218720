-- The errand after a step, by where it leads.
use Rattle.std.proofs.Common.{ℕ, Option, Some, None, if◌then◌else◌, ◌≡◌, ap, refl, sym, arith}
use Rattle.word_table.specs.declared.action.Action.{Action}
use Rattle.word_table.specs.declared.action.Found.{Found}
use Rattle.word_table.specs.declared.onward.Onward.{Onward}
use Rattle.word_table.specs.Onwards.{exit_by, point_by}
use Rattle.step_parts.specs.declared.stack.exit.StackExit.{StackExit}
use Rattle.step_parts.specs.declared.stack.point.StackPoint.{StackPoint}
use Rattle.step_parts.specs.declared.large.exit.LargeExit.{LargeExit}
use Rattle.step_parts.specs.declared.large.point.LargePoint.{LargePoint}
use Rattle.step_parts.specs.large.Points.{is_on_word, settle_large_of}
use Rattle.step_parts.specs.declared.partial.exit.PartialExit.{PartialExit}
use Rattle.step_parts.specs.declared.partial.point.PartialPoint.{PartialPoint}
use Rattle.errand_steps.specs.declared.continuation.Continuation.{Continuation}
use Rattle.errand_steps.specs.declared.next.Next.TheVariants.{At, End}
use Rattle.errand_steps.specs.declared.point.Point.{Point}
use Rattle.errand_steps.specs.declared.point.Point.TheVariants.{Idle, Large}
use Rattle.errand_steps.specs.declared.reply.Progress.TheVariants.{Done}
use Rattle.errand_steps.specs.declared.reply.Reply.{Reply}
use Rattle.errand_steps.specs.Errands.{ErrandFields, plan_of, settle_of, course_of, answer_of, counts_won, counts_lost, counts_cleared, raised, going_on, EndsUncounted}
use Rattle.errand_steps.specs.Points.{plan_point_of}
use Rattle.errand_steps.specs.Nexts.{next_of, enter_partial, enter_stack, leave_large, leave_partial, leave_stack}

-- the errand after a step after which the caller stands at this point of its part, with its counts
pub stayed_errand :
    (e : ErrandFields) (x : Found) (p : Point) (action : Action) (won lost cleared : ℕ) → next_of e.point x ≡ At p
    → action ≡ plan_of e → won ≡ raised (counts_won action x) e.won → lost ≡ raised (counts_lost e.point x) e.lost
    → cleared ≡ raised (counts_cleared e.point x) e.cleared
    → record e { point = p; won = won; lost = lost; cleared = cleared } ≡ settle_of e x
unfolding settle_of course_of
stayed_errand e x p action won lost cleared at planned is_won is_lost is_cleared =
    rw (at, is_won, is_lost, is_cleared, planned) refl

-- what a step answers after which the caller stands at a point of its part
pub stayed_answer :
    (e : ErrandFields) (x : Found) (p : Point) → next_of e.point x ≡ At p
    → answer_of e x ≡ going_on (counts_lost e.point x) (counts_cleared e.point x)
unfolding answer_of course_of
stayed_answer e x p at = rw (at) refl

-- the errand after a step that ends its call with this reply, with its counts
pub ended_errand :
    (e : ErrandFields) (x : Found) (r : Reply) (action : Action) (won lost cleared : ℕ) → next_of e.point x ≡ End r
    → action ≡ plan_of e → won ≡ raised (counts_won action x) e.won → lost ≡ raised (counts_lost e.point x) e.lost
    → cleared ≡ raised (counts_cleared e.point x) e.cleared
    → record e { point = Idle; won = won; lost = lost; cleared = cleared } ≡ settle_of e x
unfolding settle_of course_of
ended_errand e x r action won lost cleared ends planned is_won is_lost is_cleared =
    rw (ends, is_won, is_lost, is_cleared, planned) refl

-- what a step answers that ends its call
pub ended_answer : (e : ErrandFields) (x : Found) (r : Reply) → next_of e.point x ≡ End r → answer_of e x ≡ Done r
unfolding answer_of course_of
ended_answer e x r ends = rw (ends) refl

-- a step on a usable word ends its call, and no count rises
pub word_ends :
    (p : LargePoint) (o : Continuation) (x : Found) (q : Option LargeExit) (e : LargeExit) (r : Reply)
    → q ≡ (if is_on_word p then exit_by (settle_large_of p x) else None) → q ≡ Some e → leave_large e o ≡ End r
    → EndsUncounted (Large p o) x r
unfolding plan_point_of next_of
word_ends p o x q e r exit some ends = grind (arith)

-- the errand after a step that ends its call on a usable word: no count rises
pub uncounted_errand :
    (e : ErrandFields) (x : Found) (r : Reply) → EndsUncounted e.point x r → record e { point = Idle } ≡ settle_of e x
uncounted_errand e x r uncounted =
    ended_errand e x r (plan_of e) e.won e.lost e.cleared uncounted.ends refl
    (ap (λ b. raised b e.won) (sym uncounted.won)) (ap (λ b. raised b e.lost) (sym uncounted.lost))
    (ap (λ b. raised b e.cleared) (sym uncounted.cleared))

-- a stack that is left: what follows, and the point stays as it was
pub left_stack :
    (t : Onward StackPoint StackExit) (p q : StackPoint) (r : Option StackExit) (e : StackExit) (o : Continuation) → r ≡ exit_by t
    → q ≡ point_by p t → r ≡ Some e → (leave_stack e o ≡ enter_stack t o) × (q ≡ p)
left_stack t p q r e o exit point some = grind (arith)

-- a partial superblock that is left
pub left_partial :
    (t : Onward PartialPoint PartialExit) (p q : PartialPoint) (r : Option PartialExit) (e : PartialExit) (o : Continuation) → r ≡ exit_by t
    → q ≡ point_by p t → r ≡ Some e → (leave_partial e o ≡ enter_partial t o) × (q ≡ p)
left_partial t p q r e o exit point some = grind (arith)
