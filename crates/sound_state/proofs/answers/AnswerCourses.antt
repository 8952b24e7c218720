-- How a call comes to its answer: from a part, from a retirement, or from the turn limit.
use Rattle.std.proofs.Common.{ℕ, Bool, true, ◌≡◌, arith}
use Rattle.sound_state.proofs.Common.{Found, SeatFields, Next, At, End, Retire, Pick, Unlist, Continuation, Reply, ErrandFields, course_of, next_of, Turn, Done, after_list}
use Rattle.sound_state.proofs.Common.{after_turn, answer_of, is_spent, resumed}
use Rattle.errand_steps.specs.declared.continuation.Continuation.TheVariants as continuation
use Rattle.errand_steps.specs.declared.reply.Reply.TheVariants as reply
use Rattle.errand_steps.specs.Errands.{told}

told-end : (n : Next) (lost cleared : Bool) (r : Reply) → told n lost cleared ≡ Done r → n ≡ End r
told-end n lost cleared r e = grind (arith, e)

-- a call that is resumed behind a retirement may end there with this answer
abbrev pub IsResumed : ErrandFields → Continuation → Reply → Type 0
IsResumed e (continuation.Turn words) r = (is_spent e ≡ true) × (r ≡ reply.Spent)
IsResumed e (continuation.Look words) r = ⊥
IsResumed e continuation.Refuse r = r ≡ reply.Refused
IsResumed e o r = r ≡ reply.Freed

resumed-end : (e : ErrandFields) (s : SeatFields) (o : Continuation) (r : Reply) → after_turn e (resumed s o) ≡ End r → IsResumed e o r
resumed-end e s o r is = grind (arith, is)

-- a call may end with this answer by what follows its step
abbrev pub EndsBy : ErrandFields → Next → Reply → Type 0
EndsBy e (At p) r = ⊥
EndsBy e (End q) r = r ≡ q
EndsBy e (Turn s words) r = (is_spent e ≡ true) × (r ≡ reply.Spent)
EndsBy e (Retire s d o) r = IsResumed e o r
EndsBy e (Pick s held o) r = ⊥
EndsBy e (Unlist s d o) r = IsResumed e o r

retired-end : (e : ErrandFields) (s : SeatFields) (d : ℕ) (o : Continuation) (r : Reply) → after_turn e (after_list e (Retire s d o)) ≡ End r → IsResumed e o r
retired-end e s d o r is = grind (arith, is, resumed-end)

course-end : (e : ErrandFields) (n : Next) (r : Reply) → after_turn e (after_list e n) ≡ End r → EndsBy e n r
course-end e (Retire s d o) r is = retired-end e s d o r is
course-end e (Unlist s d o) r is = resumed-end e s o r is
course-end e n r is = grind (arith, is)

-- a step that answers tells how its call ends by what follows it
pub answer-ends : (e : ErrandFields) (x : Found) (r : Reply) → answer_of e x ≡ Done r → EndsBy e (next_of e.point x) r
unfolding answer_of course_of
answer-ends e x r is = course-end e (next_of e.point x) r (told-end _ _ _ r is)
