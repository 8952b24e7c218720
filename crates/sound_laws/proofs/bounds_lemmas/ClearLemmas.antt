-- A caller that is in a turn after a step, or clears by it, was in one before it, for the same class.
use Rattle.std.proofs.Common.{ℕ, true, Option, Some, None, ◌≡◌, ◌⊎◌, refl, arith, sym, inl, inr, ◌∙◌, true≢false, ap, List}
use Rattle.std.proofs.lemmas.Bool.{cond_both}
use Rattle.sound_state.proofs.Common.{Geometry, Found, SeatFields, Next, At, End, Retire, Pick, Unlist, Continuation, Point, ErrandFields, counts_cleared, settle_of}
use Rattle.sound_state.proofs.Common.{course_of, FitsPoint, next_of, in_turn, first_unheld, Turn, point_after, after_turn, after_list, picked, turned, is_full, scan_begins}
use Rattle.sound_state.proofs.Common.{resumed, is_turn, continuation_turn_stage}
use Rattle.sound_laws.specs.bounds.Alone.{class_at}
use Rattle.sound_laws.proofs.bounds_lemmas.TurnWords.{next_turn, next_class, turn-goes}

-- a caller that clears is in a turn
pub clears-turn : (g : Geometry) (caller : ℕ) (p : Point) (x : Found) → FitsPoint g caller p → counts_cleared p x ≡ true → in_turn p ≡ true
clears-turn g caller p x fits is = grind (arith, fits, is)

-- a caller that is in a turn at q, where n followed its step, has stayed at its point, or was to go on in a turn for the class that it is at work on
abbrev TurnsFrom : ErrandFields → Next → Point → Type 0
TurnsFrom e n q = in_turn q ≡ true → (q ≡ e.point) ⊎ ((next_turn n ≡ true) × (class_at q ≡ next_class n))

resumed-turn :
    (e : ErrandFields) (s : SeatFields) (o : Continuation) → in_turn (point_after (after_turn e (resumed s o))) ≡ true
    → (is_turn (continuation_turn_stage o) ≡ true) × (class_at (point_after (after_turn e (resumed s o))) ≡ s.class)
resumed-turn e s o is = (grind (arith, is), grind (arith, is))

turned-class :
    (e : ErrandFields) (s : SeatFields) (need : ℕ) → in_turn (point_after (turned e s need)) ≡ true → class_at (point_after (turned e s need)) ≡ s.class
turned-class e s need is = grind (arith, is)

picked-turn :
    (e : ErrandFields) (s : SeatFields) (held : List ℕ) (o : Continuation) (d : Option ℕ)
    → TurnsFrom e (Pick s held o) (point_after (after_turn e (picked e s o d)))
picked-turn e s held o None is = inl refl
picked-turn e s held o (Some d) is = inr (is, refl)

-- each caller that its retired list and the turn limit leave in a turn has stayed or was to go on so
listed-turn : (e : ErrandFields) (n : Next) → TurnsFrom e n (point_after (after_turn e (after_list e n)))
listed-turn e (At p) is = inr (is, refl)
listed-turn e (End r) is = absurd (true≢false (sym is))
listed-turn e (Turn s need) is = inr (refl, turned-class e s need is)
listed-turn e (Retire s d o) is =
    cond_both (is_full e) (At (scan_begins s o)) (resumed s o) (λ m. TurnsFrom e (Retire s d o) (point_after (after_turn e m)))
    (λ full is. inr (is, refl)) (λ room is. inr (resumed-turn e s o is)) is
listed-turn e (Pick s held o) is = picked-turn e s held o (first_unheld held e.retired) is
listed-turn e (Unlist s d o) is = inr (resumed-turn e s o is)

-- a caller that is in a turn after a step was in one before it, for the same class
pub turn-before :
    (g : Geometry) (caller : ℕ) (e : ErrandFields) (x : Found) → FitsPoint g caller e.point → in_turn (settle_of e x).point ≡ true
    → (in_turn e.point ≡ true) × (class_at (settle_of e x).point ≡ class_at e.point)
unfolding settle_of course_of
turn-before g caller e x fits is =
    elim (listed-turn e (next_of e.point x) is) [
      | inl same ↦ (ap in_turn (sym same) ∙ is, ap class_at same)
      | inr goes ↦ let was = turn-goes g caller e.point x fits goes.0 in (was.0, goes.1 ∙ was.1)
    ]
