-- What a step answers.
use Rattle.std.proofs.Common.{Bool, true, false, ◌≡◌, refl, arith, sym, ◌∙◌}
use Rattle.std.specs.Prelude.{◌↔◌}
use Rattle.std.proofs.lemmas.Bool.{true≢false}
use Rattle.word_table.specs.declared.action.Found.{Found}
use Rattle.errand_steps.specs.declared.next.Next.{Next}
use Rattle.errand_steps.specs.declared.next.Next.TheVariants.{At, End, Turn, Retire, Pick, Unlist}
use Rattle.errand_steps.specs.declared.point.Point.{Point}
use Rattle.errand_steps.specs.declared.reply.Progress.TheVariants.{Lost, Cleared, Done}
use Rattle.errand_steps.specs.declared.reply.Reply.{Reply}
use Rattle.errand_steps.specs.Begins.{IsBusy, IsIdle}
use Rattle.errand_steps.specs.Errands.{ErrandFields, after_list, after_turn, counts_lost, counts_cleared, course_of, settle_of, answer_of, point_after, told}
use Rattle.errand_steps.specs.Nexts.{next_of}
use Rattle.errand_steps.specs.Points.{is_idle, plan_point_of}

-- a call goes on at a point, or ends
abbrev GoesOrEnds : Next → Type 0
GoesOrEnds (At p) = is_idle p ≡ false
GoesOrEnds (End r) = Unit {0}
GoesOrEnds (Turn s words) = ⊥
GoesOrEnds (Retire s d o) = ⊥
GoesOrEnds (Pick s held o) = ⊥
GoesOrEnds (Unlist s d o) = ⊥

-- the next point of a call, if it has one, is none of an idle caller
abbrev IsOn : Next → Type 0
IsOn (At p) = is_idle p ≡ false
IsOn n = Unit {0}

next-on : (p : Point) (x : Found) → is_idle p ≡ false → IsOn (next_of p x)
unfolding next_of
next-on p x busy = grind (arith)

-- what follows when the list is changed is a point, an end or a turn
abbrev IsListed : Next → Type 0
IsListed (At p) = is_idle p ≡ false
IsListed (End r) = Unit {0}
IsListed (Turn s words) = Unit {0}
IsListed (Retire s d o) = ⊥
IsListed (Pick s held o) = ⊥
IsListed (Unlist s d o) = ⊥

listed-on : (e : ErrandFields) (n : Next) → is_idle e.point ≡ false → IsOn n → IsListed (after_list e n)
listed-on e n busy on = grind (arith)

turned-on : (e : ErrandFields) (n : Next) → IsListed n → GoesOrEnds (after_turn e n)
turned-on e n listed = grind (arith)

course-on : (e : ErrandFields) (x : Found) → IsBusy e → GoesOrEnds (course_of e x)
unfolding course_of
course-on e x busy =
    turned-on e (after_list e (next_of e.point x)) (listed-on e (next_of e.point x) busy (next-on e.point x busy))

done-at :
    (n : Next) (lost cleared : Bool) → GoesOrEnds n
    → (is_idle (point_after n) ≡ true) ↔ ((r : Reply) × (told n lost cleared ≡ Done r))
done-at (At p) false false on = (λ idle. absurd (true≢false (sym idle ∙ on)), λ done. absurd (grind (arith)))
done-at (At p) false true on = (λ idle. absurd (true≢false (sym idle ∙ on)), λ done. absurd (grind (arith)))
done-at (At p) true cleared on = (λ idle. absurd (true≢false (sym idle ∙ on)), λ done. absurd (grind (arith)))
done-at (End r) lost cleared on = (λ idle. (r, refl), λ done. refl)
done-at (Turn s words) lost cleared on = absurd on
done-at (Retire s d o) lost cleared on = absurd on
done-at (Pick s held o) lost cleared on = absurd on
done-at (Unlist s d o) lost cleared on = absurd on

lost-at :
    (n : Next) (lost cleared : Bool) → GoesOrEnds n
    → (told n lost cleared ≡ Lost) ↔ ((lost ≡ true) × (is_idle (point_after n) ≡ false))
lost-at n lost cleared on = grind (arith)

-- a step that takes an empty superblock is not lost
cleared-not_lost : (p : Point) (x : Found) → counts_cleared p x ≡ true → counts_lost p x ≡ false
unfolding plan_point_of
cleared-not_lost p x cleared = grind (arith)

cleared-at :
    (n : Next) (lost cleared : Bool) → GoesOrEnds n → (cleared ≡ true → lost ≡ false)
    → (told n lost cleared ≡ Cleared) ↔ ((cleared ≡ true) × (is_idle (point_after n) ≡ false))
cleared-at n lost cleared on apart = grind (arith)

pub done-told : (e : ErrandFields) (x : Found) → IsBusy e → IsIdle (settle_of e x) ↔ ((r : Reply) × (answer_of e x ≡ Done r))
unfolding settle_of answer_of
done-told e x busy = done-at (course_of e x) (counts_lost e.point x) (counts_cleared e.point x) (course-on e x busy)

pub lost-told :
    (e : ErrandFields) (x : Found) → IsBusy e
    → (answer_of e x ≡ Lost) ↔ ((counts_lost e.point x ≡ true) × IsBusy (settle_of e x))
unfolding settle_of answer_of
lost-told e x busy = lost-at (course_of e x) (counts_lost e.point x) (counts_cleared e.point x) (course-on e x busy)

pub cleared-told :
    (e : ErrandFields) (x : Found) → IsBusy e
    → (answer_of e x ≡ Cleared) ↔ ((counts_cleared e.point x ≡ true) × IsBusy (settle_of e x))
unfolding settle_of answer_of
cleared-told e x busy =
    cleared-at (course_of e x) (counts_lost e.point x) (counts_cleared e.point x) (course-on e x busy) (cleared-not_lost e.point x)
