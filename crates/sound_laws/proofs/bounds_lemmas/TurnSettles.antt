-- What the retired list and the turn limit make of a caller's turn.
use Rattle.std.proofs.Common.{ℕ, Bool, false, ◌≡◌, ◌≤◌, ◌+◌, arith, IsTrue}
use Rattle.sound_state.proofs.Common.{Geometry, Found, Next, At, Point, ErrandFields, settle_of, course_of, FitsPoint, next_of, turn_stage_of, is_unneeded, one_if}
use Rattle.sound_state.proofs.Common.{after_list, after_turn, point_after, begins_turn, lacks_answer, is_seeking, errand_discards}
use Rattle.sound_state.specs.TurnStages.{is_offering}
use Rattle.sound_laws.specs.bounds.Wins.{is_between}
use Rattle.sound_state.proofs.shared.StepLemmas.{raised-most}
use Rattle.sound_laws.proofs.bounds_lemmas.TurnEnds.{ResumesFrom, next_ends, ends-to}
use Rattle.sound_laws.proofs.bounds_lemmas.WinDefs.{next_unanswered, next_discards, next_offers, next_seeks}

-- what a step that leads to n leaves of its caller's turn at the point where it ends up, whether a turn begins there or not
pub record SettlesTo (begins_one : Bool) (q : Point) (n : Next) : Type 0 where
  pub turn : one_if begins_one + next_unanswered n ≤ one_if (lacks_answer (turn_stage_of q)) + next_ends n
  pub stays : is_between q ≡ false → next_unanswered n ≤ one_if (lacks_answer (turn_stage_of q))
  pub discards : one_if (is_unneeded (turn_stage_of q)) ≤ next_discards n
  pub offers : one_if (is_offering (turn_stage_of q)) ≤ next_offers n
  pub seeks : IsTrue (is_seeking (turn_stage_of q)) → IsTrue (next_seeks n)
  pub begins : is_between q ≡ false → begins_one ≡ false

-- what a step that leads to n leaves of its caller's turn, where m is made of that by the retired list
abbrev SettlesBy : ErrandFields → Next → Next → Type 0
SettlesBy e n m = SettlesTo (begins_turn e m) (point_after (after_turn e m)) n

-- a step that leads to a point leaves its caller's turn so
at-settles : (e : ErrandFields) (p : Point) → SettlesBy e (At p) (At p)
at-settles e p = grind (arith)

-- what follows a step leaves its caller's turn so, with the retired list's part in it
settles-to : (e : ErrandFields) (n : Next) → ResumesFrom e.point n → SettlesBy e n (after_list e n)
settles-to e (At p) goes = at-settles e p
settles-to e n goes = grind (arith)

-- what a step makes of its caller's turn, with the parts of the retired list and the turn limit in it
pub record TurnSettles (e : ErrandFields) (x : Found) : Type 0 where
  pub to : SettlesTo (begins_turn e (after_list e (next_of e.point x))) (settle_of e x).point (next_of e.point x)
  pub ends : next_ends (next_of e.point x) ≤ errand_discards e
  pub turns : (settle_of e x).turns ≤ e.turns + one_if (begins_turn e (after_list e (next_of e.point x)))

-- what a step makes of its caller's turn at each point where the caller may stand
pub settles-turn : (g : Geometry) (caller : ℕ) (e : ErrandFields) (x : Found) → FitsPoint g caller e.point → TurnSettles e x
unfolding settle_of course_of
settles-turn g caller e x fits =
    let on = ends-to g caller e.point x fits in
    record {
      to = settles-to e (next_of e.point x) on.goes;
      ends = on.ends;
      turns = raised-most (begins_turn e (after_list e (next_of e.point x))) e.turns;
    }
