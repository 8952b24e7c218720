-- A store tells nothing of the word that it finds.
use Rattle.std.proofs.Common.{ℕ, ◌≡◌, false, refl, arith}
use Rattle.word_table.specs.declared.action.Action.TheVariants.{Store}
use Rattle.word_table.specs.declared.action.Found.{Found}
use Rattle.word_table.specs.declared.name.WordName.{WordName}
use Rattle.errand_steps.specs.declared.point.Point.{Point}
use Rattle.errand_steps.specs.Errands.{ErrandFields, plan_of, settle_of, answer_of, course_of, counts_lost, counts_cleared}
use Rattle.errand_steps.specs.Nexts.{next_of}
use Rattle.errand_steps.specs.Points.{plan_point_of}

next-blind : (p : Point) (name : WordName) (new : ℕ) (x y : Found) → plan_point_of p ≡ Store name new → next_of p x ≡ next_of p y
unfolding plan_point_of next_of
next-blind p name new x y stores = grind (arith)

lost-blind : (p : Point) (name : WordName) (new : ℕ) (x : Found) → plan_point_of p ≡ Store name new → counts_lost p x ≡ false
unfolding plan_point_of
lost-blind p name new x stores = grind (arith)

cleared-blind : (p : Point) (name : WordName) (new : ℕ) (x : Found) → plan_point_of p ≡ Store name new → counts_cleared p x ≡ false
unfolding plan_point_of
cleared-blind p name new x stores = grind (arith)

-- the errand after a store is the same, whatever the store found
pub errand-blind : (e : ErrandFields) (name : WordName) (new : ℕ) (x y : Found) → plan_of e ≡ Store name new → settle_of e x ≡ settle_of e y
unfolding settle_of course_of
errand-blind e name new x y stores =
    rw (next-blind e.point name new x y stores, lost-blind e.point name new x stores, lost-blind e.point name new y stores, cleared-blind e.point name new x stores, cleared-blind e.point name new y stores, stores) refl

-- the answer of a step that stores is the same, whatever the store found
pub answer-blind : (e : ErrandFields) (name : WordName) (new : ℕ) (x y : Found) → plan_of e ≡ Store name new → answer_of e x ≡ answer_of e y
unfolding answer_of course_of
answer-blind e name new x y stores =
    rw (next-blind e.point name new x y stores, lost-blind e.point name new x stores, lost-blind e.point name new y stores, cleared-blind e.point name new x stores, cleared-blind e.point name new y stores) refl
