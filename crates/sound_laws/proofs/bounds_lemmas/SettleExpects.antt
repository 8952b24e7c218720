-- What a caller expects after a step, where the retired list and the turn limit say how it goes on.
use Rattle.std.proofs.Common.{ℕ, Bool, true, false, Option, Some, None, ◌≡◌, List, refl, ◌∙◌, arith, ap, sym, All, true≢false}
use Rattle.std.proofs.lemmas.Bool.{cond_both}
use Rattle.std.proofs.lemmas.List.Elements.{All-nil}
use Rattle.sound_state.proofs.Common.{Found, SeatFields, Continuation, Next, At, End, Retire, Pick, Unlist, Point, ErrandFields, settle_of, course_of, next_of}
use Rattle.sound_state.proofs.Common.{first_unheld, Turn, after_list, after_turn, picked, turned, is_full, scan_begins, point_after, resumed}
use Rattle.step_parts.specs.declared.hazard.point.DescPoint.TheVariants as desc
use Rattle.errand_steps.specs.declared.point.Point.TheVariants as point
use Rattle.errand_steps.specs.tables.Expected.{Expected, continuation_expects}
use Rattle.sound_laws.specs.bounds.Expectations.{expects_of}
use Rattle.sound_laws.proofs.bounds_lemmas.WinDefs.{next_expects}
use Rattle.sound_state.proofs.shared.GuardEffects.{scans}

-- whether a scan is over
abbrev pub is_pick : Next → Bool
is_pick (Pick s held o) = true
is_pick n = false

-- whether a scan reads a hazard word at the point
abbrev pub is_scan : Point → Bool
is_scan (point.Desc p o) = scans p
is_scan p = false

-- only a step that reads a hazard word ends a scan
pub no-pick : (p : Point) (x : Found) → is_scan p ≡ false → is_pick (next_of p x) ≡ false
unfolding next_of
no-pick (point.Desc p o) x plain = grind (arith, plain)
no-pick p x plain = grind (arith)

-- a caller whose scan ends expects at its point no more than by what waits behind the part
picked-expects :
    (P : Expected → Type 0) (p : Point) (x : Found) (s : SeatFields) (held : List ℕ) (o : Continuation) → next_of p x ≡ Pick s held o
    → All P (continuation_expects s o) → All P (expects_of p)
unfolding next_of expects_of
picked-expects P (point.Desc (desc.ReadHazard t words at) r) x s held o is all = grind (arith, is)
picked-expects P p x s held o is all = absurd (true≢false (ap is_pick (sym is) ∙ no-pick p x refl))

-- a call that is resumed behind a retirement expects no more than by what waits behind the part
resumed-expects :
    (P : Expected → Type 0) (e : ErrandFields) (s : SeatFields) (o : Continuation) → All P (continuation_expects s o)
    → All P (expects_of (point_after (after_turn e (resumed s o))))
unfolding expects_of
resumed-expects P e s o all = grind (arith, all)

-- a call whose scan picks a descriptor, or none, expects no more than by what waits behind the part
first-expects :
    (P : Expected → Type 0) (e : ErrandFields) (x : Found) (s : SeatFields) (held : List ℕ) (o : Continuation) (first : Option ℕ)
    → next_of e.point x ≡ Pick s held o → All P (continuation_expects s o) → All P (expects_of (point_after (after_turn e (picked e s o first))))
unfolding expects_of
first-expects P e x s held o None is all = picked-expects P e.point x s held o is all
first-expects P e x s held o (Some d) is all = all

-- a call whose next turn begins, or that ends, expects nothing
turned-expects : (P : Expected → Type 0) (e : ErrandFields) (s : SeatFields) (need : ℕ) → All P (expects_of (point_after (turned e s need)))
unfolding expects_of
turned-expects P e s need = grind (arith)

-- a call that retires a descriptor, and scans or not, expects no more than by what waits behind the part
retired-expects :
    (P : Expected → Type 0) (e : ErrandFields) (s : SeatFields) (d : ℕ) (o : Continuation) → All P (continuation_expects s o)
    → All P (expects_of (point_after (after_turn e (after_list e (Retire s d o)))))
unfolding expects_of
retired-expects P e s d o all =
    cond_both (is_full e) (At (scan_begins s o)) (resumed s o)
    (λ n. All P (expects_of (point_after (after_turn e n)))) (λ full. all) (λ room. resumed-expects P e s o all)

-- what holds of all that is expected where a step leads holds of all that its caller expects then, whatever its list says
listed-expects :
    (P : Expected → Type 0) (e : ErrandFields) (x : Found) (n : Next) → next_of e.point x ≡ n → All P (next_expects n)
    → All P (expects_of (point_after (after_turn e (after_list e n))))
unfolding expects_of
listed-expects P e x (At p) is all = all
listed-expects P e x (End r) is all = All-nil P
listed-expects P e x (Turn s need) is all = turned-expects P e s need
listed-expects P e x (Retire s d o) is all = retired-expects P e s d o all
listed-expects P e x (Pick s held o) is all = first-expects P e x s held o (first_unheld held e.retired) is all
listed-expects P e x (Unlist s d o) is all = resumed-expects P e s o all

-- what holds of all that a caller expects where its step leads holds of all that it expects after the step
pub expects-settled :
    (e : ErrandFields) (x : Found) (P : Expected → Type 0) → All P (next_expects (next_of e.point x)) → All P (expects_of (settle_of e x).point)
unfolding settle_of course_of
expects-settled e x P all = listed-expects P e x (next_of e.point x) refl all
