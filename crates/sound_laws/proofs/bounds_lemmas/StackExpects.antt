-- What a caller expects after a step at a stack it expected before, or its step saw it or left it so.
use Rattle.std.proofs.Common.{ℕ, ◌≢◌, ◌<◌, ◌^◌, ◌-◌, refl, arith, sym, All, ◌==◌}
use Rattle.std.proofs.lemmas.Bool.{cond_both}
use Rattle.std.proofs.lemmas.List.Elements.{All-nil}
use Rattle.sound_state.proofs.Common.{HeadFields, head_of, name_of, SeatFields, active_name, Pile, StackPoint, head_name, Continuation, Stack, next_of, plan_point_of}
use Rattle.packed_words.specs.Head.{head_word}
use Rattle.packed_words.proofs.HeadLemmas.{head_word-head_of}
use Rattle.word_table.specs.declared.onward.Onward.{Onward}
use Rattle.word_table.specs.declared.onward.Onward.TheVariants.{Stays, Leaves}
use Rattle.step_parts.specs.declared.stack.exit.StackExit.{StackExit}
use Rattle.step_parts.specs.declared.stack.exit.StackExit.TheVariants as exit
use Rattle.step_parts.specs.declared.stack.point.StackPoint.TheVariants as stack
use Rattle.step_parts.specs.stack.Points.{plan_stack_of, seat_of_stack, after_top}
use Rattle.errand_steps.specs.Nexts.{enter_stack, popped, confirmed_empty, put_away}
use Rattle.errand_steps.specs.tables.Expected.{Expected, continuation_expects}
use Rattle.errand_steps.specs.tables.Stacks.{stack_expects, head_still}
use Rattle.sound_laws.specs.bounds.Expectations.{expects_of}
use Rattle.sound_laws.proofs.bounds_lemmas.ExpectLemmas.{AllApart, unmoved, unmoved-carried, IsIn, MayOne, MayAll, all-in, all-in_rest, continuation-carried, load-seen}
use Rattle.sound_laws.proofs.bounds_lemmas.WinDefs.{ExpectsOn, next_expects}

-- no step at a stack is on an active word
stack-apart : (p : StackPoint) → active_name (seat_of_stack p) ≢ name_of (plan_stack_of p)
stack-apart p = grind (arith)

-- what waits behind a part at a stack is expected there
stack-holds : (p : StackPoint) (o : Continuation) → All (IsIn (expects_of (Stack p o))) (continuation_expects (seat_of_stack p) o)
unfolding expects_of
stack-holds p o = grind (arith, all-in, all-in_rest)

-- behind a head that is read for a pop no more is expected than that head, or by what waits behind the part
top-expects :
    (P : Expected → Type 0) (s : SeatFields) (pile : Pile) (h : HeadFields) (o : Continuation) → All P (continuation_expects s o)
    → All P (head_still s pile h o) → All P (next_expects (enter_stack (after_top s pile h) o))
unfolding expects_of
top-expects P s pile h o rest all = grind (arith, rest, all)

-- behind an index that was popped no more is expected than by what waits behind the part
popped-leads :
    (P : Expected → Type 0) (s : SeatFields) (i : ℕ) (o : Continuation) → All P (continuation_expects s o) → All P (next_expects (popped s i o))
unfolding expects_of
popped-leads P s i o rest = grind (arith, rest)

-- behind a stack that was found empty no more is expected than by what waits behind the part
confirmed-leads :
    (P : Expected → Type 0) (s : SeatFields) (o : Continuation) → All P (continuation_expects s o) → All P (next_expects (confirmed_empty s o))
unfolding expects_of
confirmed-leads P s o rest = grind (arith, rest, All-nil P)

-- behind what was put away on a stack nothing is expected
pub put-leads : (P : Expected → Type 0) (s : SeatFields) (o : Continuation) → All P (next_expects (put_away s o))
unfolding expects_of
put-leads P s o = grind (arith, All-nil P)

-- a step from p to n carries or sees all that its caller expects after it
abbrev StackCarries : StackPoint → Continuation → ℕ → Onward StackPoint StackExit → Type 0
StackCarries p o v n = MayAll (Stack p o) v (next_expects (enter_stack n o))

-- what waits behind a part at a stack is carried by the step
stack-continuation-carried : (p : StackPoint) (o : Continuation) (v : ℕ) → MayAll (Stack p o) v (continuation_expects (seat_of_stack p) o)
unfolding plan_point_of
stack-continuation-carried p o v = continuation-carried (Stack p o) v (seat_of_stack p) o (stack-holds p o) (stack-apart p)

-- a step that is no exchange is on none of the words of which its caller expects something
still-apart : (p : StackPoint) (o : Continuation) → AllApart (Stack p o) (unmoved (plan_stack_of p) (stack_expects p o))
unfolding plan_point_of
still-apart p o = grind (arith)

-- such a step carries what its caller expects
stack-carried : (p : StackPoint) (o : Continuation) (v : ℕ) → MayAll (Stack p o) v (unmoved (plan_stack_of p) (stack_expects p o))
unfolding plan_point_of expects_of
stack-carried p o v = unmoved-carried (Stack p o) v (stack_expects p o) refl (still-apart p o)

-- a step at a stack carries or sees all that its caller expects after it
pub stack-expects : (p : StackPoint) (o : Continuation) (v : ℕ) → v < 2 ^ 64 → ExpectsOn (Stack p o) v
unfolding plan_point_of next_of expects_of
stack-expects (stack.LoadTop s pile) o v below =
    let p = stack.LoadTop s pile in
    let rest = stack-continuation-carried p o v in
    top-expects (MayOne (Stack p o) v) s pile (head_of v) o rest
    (load-seen (Stack p o) v (head_name s pile) (head_word (head_of v)) (continuation_expects s o) refl (sym (head_word-head_of v below)) rest)
stack-expects (stack.PopTop s pile h next) o v below =
    let p = stack.PopTop s pile h next in
    let rest = stack-continuation-carried p o v in
    cond_both (v == head_word h) (Leaves (exit.Popped s pile (h.top - 1))) (Stays (stack.LoadTop s pile)) (StackCarries p o v)
    (λ won. popped-leads (MayOne (Stack p o) v) s (h.top - 1) o rest) (λ lost. rest)
stack-expects (stack.ConfirmEmpty s pile h) o v below =
    let p = stack.ConfirmEmpty s pile h in
    let rest = stack-continuation-carried p o v in
    cond_both (v == head_word h) (Leaves (exit.ConfirmedEmpty s pile)) (Stays (stack.LoadTop s pile)) (StackCarries p o v)
    (λ won. confirmed-leads (MayOne (Stack p o) v) s o rest) (λ lost. rest)
stack-expects (stack.LoadTopToPush s pile i) o v below =
    let p = stack.LoadTopToPush s pile i in
    load-seen (Stack p o) v (head_name s pile) (head_word (head_of v)) (continuation_expects s o) refl (sym (head_word-head_of v below))
    (stack-continuation-carried p o v)
stack-expects (stack.PushTop s pile i h) o v below =
    let p = stack.PushTop s pile i h in
    cond_both (v == head_word h) (Leaves (exit.Pushed s pile)) (Stays (stack.LoadTopToPush s pile i)) (StackCarries p o v)
    (λ won. put-leads (MayOne (Stack p o) v) s o) (λ lost. stack-continuation-carried p o v)
stack-expects p o v below = grind (arith, stack-carried p o v)
