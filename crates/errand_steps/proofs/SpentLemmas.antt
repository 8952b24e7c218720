-- Where a caller has no turn left, it has begun as many as its heap allows.
use Rattle.std.proofs.Common.{ℕ, Bool, true, false, ◌≡◌, arith, ap, ◌∙◌}
use Rattle.heap_geometry.specs.declared.need.Need.{Need}
use Rattle.heap_geometry.specs.Need.{need_of}
use Rattle.word_table.specs.declared.action.Found.{Found}
use Rattle.errand_steps.specs.declared.next.Next.{Next}
use Rattle.errand_steps.specs.declared.next.Next.TheVariants.{End}
use Rattle.errand_steps.specs.declared.point.Point.{Point}
use Rattle.errand_steps.specs.declared.reply.Begun.TheVariants as begun
use Rattle.errand_steps.specs.declared.reply.Progress.TheVariants.{Done}
use Rattle.errand_steps.specs.declared.reply.Reply.TheVariants.{Spent}
use Rattle.errand_steps.specs.Begins.{alloc_answer, begins_with}
use Rattle.errand_steps.specs.Errands.{ErrandFields, after_list, after_turn, answer_of, begins_turn, counts_lost, counts_cleared, course_of, is_spent, raised, settle_of, told}
use Rattle.errand_steps.specs.Nexts.{next_of}

-- what follows is no end of the call for want of a turn
abbrev IsNotSpent : Next → Type 0
IsNotSpent (End Spent) = ⊥
IsNotSpent n = Unit {0}

next-not_spent : (p : Point) (x : Found) → IsNotSpent (next_of p x)
unfolding next_of
next-not_spent p x = grind (arith)

list-not_spent : (e : ErrandFields) (n : Next) → IsNotSpent n → IsNotSpent (after_list e n)
list-not_spent e n is = grind (arith)

turn-spent : (e : ErrandFields) (n : Next) → IsNotSpent n → after_turn e n ≡ End Spent → (is_spent e ≡ true) × (begins_turn e n ≡ false)
turn-spent e n is ends = grind (arith)

told-spent : (n : Next) (lost cleared : Bool) → told n lost cleared ≡ Done Spent → n ≡ End Spent
told-spent n lost cleared is = grind (arith)

at-limit : (e : ErrandFields) → is_spent e ≡ true → e.turns ≡ e.geometry.turn_limit
at-limit e spent = grind (arith)

-- a step that ends its call for want of a turn finds the caller's turns at the limit, and leaves them there
pub ends-spent :
    (e : ErrandFields) (x : Found) → answer_of e x ≡ Done Spent
    → (e.turns ≡ e.geometry.turn_limit) × ((settle_of e x).turns ≡ e.geometry.turn_limit)
unfolding answer_of settle_of course_of
ends-spent e x is =
    let listed = after_list e (next_of e.point x) in
    let ends = told-spent (after_turn e listed) (counts_lost e.point x) (counts_cleared e.point x) is in
    let spent = turn-spent e listed (list-not_spent e (next_of e.point x) (next-not_spent e.point x)) ends in
    (at-limit e spent.0, ap (λ b. raised b e.turns) spent.1 ∙ at-limit e spent.0)

-- an allocation that doesn't begin for want of a turn is one of a caller that has none left
begins-spent : (e : ErrandFields) (need : Need) → begins_with e need ≡ begun.Spent → is_spent e ≡ true
begins-spent e need is = grind (arith)

pub begins-at_limit : (e : ErrandFields) (words : ℕ) → alloc_answer e words ≡ begun.Spent → e.turns ≡ e.geometry.turn_limit
begins-at_limit e words is = at-limit e (begins-spent e (need_of words) is)
