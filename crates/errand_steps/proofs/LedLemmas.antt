-- Where an errand is led that leaves a part.
use Rattle.std.proofs.Common.{ℕ, Bool, Option, Some, None, ◌≡◌, ◌<◌, ◌^◌, ◌∙◌, ap, sym, refl, arith}
use Rattle.word_table.specs.declared.action.Action.{Action}
use Rattle.word_table.specs.declared.action.Found.{Found}
use Rattle.word_table.specs.Seats.{SeatFields}
use Rattle.step_parts.specs.hazard.Retired.{first_unheld}
use Rattle.errand_steps.specs.declared.continuation.Continuation.{Continuation}
use Rattle.errand_steps.specs.declared.next.Next.{Next}
use Rattle.errand_steps.specs.declared.next.Next.TheVariants.{At, End, Turn, Retire, Pick, Unlist}
use Rattle.errand_steps.specs.declared.point.Point.{Point}
use Rattle.errand_steps.specs.declared.reply.Progress.TheVariants.{Done}
use Rattle.errand_steps.specs.declared.reply.Reply.{Reply}
use Rattle.errand_steps.specs.Errands.{ErrandFields, IsErrand, after_list, after_turn, picked, begins_turn, counts_won, counts_lost, counts_cleared, raised, plan_of, course_of, settle_of, answer_of, led_by, led_to, ended_by, told, going_on}
use Rattle.errand_steps.specs.Nexts.{next_of}
use Rattle.errand_steps.proofs.ErrandLemmas.{counted_errand, led_errand}

-- an errand with other counts
abbrev counted : ErrandFields → ℕ → ℕ → ℕ → ErrandFields
counted e won lost cleared = record e { won = won; lost = lost; cleared = cleared }

-- the counts of an errand have no part in what follows
picked-counted :
    (e : ErrandFields) (s : SeatFields) (o : Continuation) (r : Option ℕ) (won lost cleared : ℕ)
    → picked (counted e won lost cleared) s o r ≡ picked e s o r
picked-counted e s o None won lost cleared = refl
picked-counted e s o (Some d) won lost cleared = refl

list-counted : (e : ErrandFields) (n : Next) (won lost cleared : ℕ) → after_list (counted e won lost cleared) n ≡ after_list e n
list-counted e (At p) won lost cleared = refl
list-counted e (End r) won lost cleared = refl
list-counted e (Turn s need) won lost cleared = refl
list-counted e (Retire s d o) won lost cleared = refl
list-counted e (Pick s held o) won lost cleared = picked-counted e s o (first_unheld held e.retired) won lost cleared
list-counted e (Unlist s d o) won lost cleared = refl

turn-counted : (e : ErrandFields) (n : Next) (won lost cleared : ℕ) → after_turn (counted e won lost cleared) n ≡ after_turn e n
turn-counted e (At p) won lost cleared = refl
turn-counted e (End r) won lost cleared = refl
turn-counted e (Turn s need) won lost cleared = refl
turn-counted e (Retire s d o) won lost cleared = refl
turn-counted e (Pick s held o) won lost cleared = refl
turn-counted e (Unlist s d o) won lost cleared = refl

begins-counted : (e : ErrandFields) (n : Next) (won lost cleared : ℕ) → begins_turn (counted e won lost cleared) n ≡ begins_turn e n
begins-counted e (At p) won lost cleared = refl
begins-counted e (End r) won lost cleared = refl
begins-counted e (Turn s need) won lost cleared = refl
begins-counted e (Retire s d o) won lost cleared = refl
begins-counted e (Pick s held o) won lost cleared = refl
begins-counted e (Unlist s d o) won lost cleared = refl

to-counted : (e : ErrandFields) (n : Next) (won lost cleared : ℕ) → led_to (counted e won lost cleared) n ≡ led_to e n
to-counted e n won lost cleared =
    rw (list-counted e n won lost cleared, turn-counted e (after_list e n) won lost cleared) refl

by-counted :
    (e : ErrandFields) (n : Next) (won lost cleared : ℕ)
    → led_by (counted e won lost cleared) n ≡ counted (led_by e n) won lost cleared
by-counted e n won lost cleared =
    rw (list-counted e n won lost cleared, turn-counted e (after_list e n) won lost cleared, begins-counted e (after_list e n) won lost cleared) refl

-- an errand's rule holds where it is led with the counts that the step raised; its point is as it was
pub led_rule :
    (e : ErrandFields) (x : Found) (n : Next) (p : Point) (won lost cleared : ℕ) → IsErrand e → x.value < 2 ^ 64
    → n ≡ next_of e.point x → p ≡ e.point → IsErrand (led_by (record e { point = p; won = won; lost = lost; cleared = cleared }) n)
led_rule e x n p won lost cleared h word is at =
    rw (is, at) (led_errand (counted e won lost cleared) x (counted_errand e won lost cleared h) word)

-- an errand that is led with the counts that the step raised is the errand after the step
pub led_settles :
    (e : ErrandFields) (x : Found) (n : Next) (p : Point) (action : Action) (won lost cleared : ℕ) → n ≡ next_of e.point x
    → p ≡ e.point → action ≡ plan_of e → won ≡ raised (counts_won action x) e.won → lost ≡ raised (counts_lost e.point x) e.lost
    → cleared ≡ raised (counts_cleared e.point x) e.cleared
    → led_by (record e { point = p; won = won; lost = lost; cleared = cleared }) n ≡ settle_of e x
unfolding settle_of course_of
led_settles e x n p action won lost cleared is at planned is_won is_lost is_cleared =
    rw (at, by-counted e n won lost cleared, is, is_won, is_lost, is_cleared, planned) refl

-- the answer of a step that ends its call; of one that goes on
told-ends : (n : Next) (r : Reply) (lost cleared : Bool) → ended_by n ≡ Some r → told n lost cleared ≡ Done r
told-ends n r lost cleared ends = grind (arith)

told-goes : (n : Next) (lost cleared : Bool) → ended_by n ≡ None → told n lost cleared ≡ going_on lost cleared
told-goes n lost cleared goes = grind (arith)

pub led_ends :
    (e : ErrandFields) (x : Found) (n : Next) (p : Point) (r : Reply) (won lost cleared : ℕ) → n ≡ next_of e.point x → p ≡ e.point
    → ended_by (led_to (record e { point = p; won = won; lost = lost; cleared = cleared }) n) ≡ Some r → answer_of e x ≡ Done r
unfolding answer_of course_of
led_ends e x n p r won lost cleared is at ends =
    told-ends (led_to e (next_of e.point x)) r (counts_lost e.point x) (counts_cleared e.point x)
    (ap (λ m. ended_by (led_to e m)) (sym is) ∙ ap ended_by (sym (to-counted e n won lost cleared))
    ∙ ap (λ q. ended_by (led_to (record e { point = q; won = won; lost = lost; cleared = cleared }) n)) (sym at) ∙ ends)

pub led_goes :
    (e : ErrandFields) (x : Found) (n : Next) (p : Point) (won lost cleared : ℕ) → n ≡ next_of e.point x → p ≡ e.point
    → ended_by (led_to (record e { point = p; won = won; lost = lost; cleared = cleared }) n) ≡ None
    → answer_of e x ≡ going_on (counts_lost e.point x) (counts_cleared e.point x)
unfolding answer_of course_of
led_goes e x n p won lost cleared is at goes =
    told-goes (led_to e (next_of e.point x)) (counts_lost e.point x) (counts_cleared e.point x)
    (ap (λ m. ended_by (led_to e m)) (sym is) ∙ ap ended_by (sym (to-counted e n won lost cleared))
    ∙ ap (λ q. ended_by (led_to (record e { point = q; won = won; lost = lost; cleared = cleared }) n)) (sym at) ∙ goes)
