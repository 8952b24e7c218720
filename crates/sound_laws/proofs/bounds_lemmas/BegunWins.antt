-- A call that begins keeps what was won and noted.
use Rattle.std.proofs.Common.{ℕ, false, Some, ◌≡◌, ◌<◌, ◌≤◌, ◌+◌, [], refl, arith, ap, sym, subst, ◌∙◌, ◌^◌, ◌-◌, All, IsTrue, min, count_by, true≢false}
use Rattle.std.proofs.lemmas.Bool.{cond_both}
use Rattle.std.proofs.lemmas.List.Elements.{All-nil}
use Rattle.sound_state.proofs.Common.{Geometry, Need, Small, need_of, ErrandFields, State, Moves, turn_stage_of, gives_small, refuses_small, TooLarge, IsIdle, begins_alloc}
use Rattle.sound_state.proofs.Common.{alloc_begun, free_begun, write_begun, read_begun, put_begun, take_begun, Call, alloc, free, begun_by, is_spent, BeginsCall}
use Rattle.sound_state.proofs.Common.{with_errands, is_seeking, turn_unanswered, errand_discards}
use Rattle.heap_geometry.specs.declared.need.Need.TheVariants.{Large}
use Rattle.sound_laws.specs.bounds.Contention.{is_by, IsExpected, lost_of}
use Rattle.sound_laws.specs.bounds.Expectations.{expects_of}
use Rattle.sound_laws.specs.bounds.Installs.{IsInstalledSince, installs_by, installs_against, errand_offers}
use Rattle.sound_laws.specs.bounds.Wins.{Wins}
use Rattle.sound_laws.specs.bounds.Won.{IsWon}
use Rattle.errand_steps.proofs.BegunErrands.{idle-is}
use Rattle.sound_state.proofs.shared.SumLemmas.{callers-moved}
use Rattle.sound_state.proofs.shared.CallerLemmas.{each-caller}
use Rattle.sound_laws.proofs.bounds_lemmas.InstallWins.{SinceBy, holds-since}

-- an errand that begins counts as the idle one before it, expects nothing, and has at most one turn more, which has no answer yet
record BeginsAs (e f : ErrandFields) : Type 0 where
  won : f.won ≡ e.won
  lost : f.lost ≡ e.lost
  expects : expects_of f.point ≡ []
  offers : errand_offers f ≡ 0
  seeks : is_seeking (turn_stage_of f.point) ≡ false
  discards : errand_discards f ≡ 0
  turns : f.turns ≤ e.turns + turn_unanswered f

idle-begins : (e : ErrandFields) → IsIdle e → BeginsAs e e
unfolding expects_of
idle-begins e idle = let is = idle-is e.point idle in record {
  won = refl;
  lost = refl;
  expects = ap expects_of is;
  offers = rw is refl;
  seeks = ap (λ p. is_seeking (turn_stage_of p)) is;
  discards = rw is refl;
  turns = omega arith;
}

alloc-begins : (e : ErrandFields) (words : ℕ) (n : Need) → IsIdle e → BeginsAs e (begins_alloc e words n)
unfolding expects_of
alloc-begins e words (Small class) idle =
    cond_both (is_spent e) e _ (BeginsAs e) (λ spent. idle-begins e idle)
    (λ left. grind (arith))
alloc-begins e words (Large units) idle = grind (arith)
alloc-begins e words TooLarge idle = idle-begins e idle

free-begins : (e : ErrandFields) (place : ℕ) (n : Need) → IsIdle e → BeginsAs e (free_begun e place n)
unfolding free_begun expects_of
free-begins e place TooLarge idle = idle-begins e idle
free-begins e place n idle = grind (arith)

begun-as : (e : ErrandFields) (call : Call) → IsIdle e → BeginsAs e (begun_by e call)
unfolding alloc_begun write_begun read_begun put_begun take_begun expects_of
begun-as e (alloc words) idle = alloc-begins e words (need_of words) idle
begun-as e (free place need) idle = free-begins e place need idle
begun-as e call idle = grind (arith)

-- a call that begins expects nothing
pub begun-expects : (e : ErrandFields) (call : Call) → IsIdle e → expects_of (begun_by e call).point ≡ []
begun-expects e call idle = (begun-as e call idle).expects

-- an idle caller is in no turn
idle-answered : (e : ErrandFields) → IsIdle e → turn_unanswered e ≡ 0
idle-answered e idle = rw (idle-is e.point idle) refl

begun-won :
    (g : Geometry) (s : State) (w : Wins) (caller : ℕ) (f : ErrandFields) (errands : ℕ → ErrandFields) → IsWon g s w → caller < g.callers
    → IsIdle (s.errand caller) → BeginsAs (s.errand caller) f → Moves s.errand caller f errands → IsWon g (with_errands s errands) w
begun-won g s w caller f errands won has idle b moves =
    let s' = with_errands s errands in
    let n = won.noted in
    let i = won.installed in
    let quiet = idle-answered (s.errand caller) idle in
    record {
      noted = record {
        callers = n.callers;
        won = each-caller g (λ k e. e.won ≡ min (count_by (is_by k) w.list) (2 ^ 64 - 1)) s.errand caller f errands moves (b.won ∙ n.won caller has) n.won;
        past = n.past;
        expected =
            each-caller g (λ k e. All (IsExpected s' w k) (expects_of e.point)) s.errand caller f errands moves
            (subst (All (IsExpected s' w caller)) (sym b.expects) (All-nil (IsExpected s' w caller)))
            (λ k has_k j d lt. let x = n.expected k has_k j d lt in record { wins = x.wins; noted = x.noted; so = x.so });
      };
      contended = record { most = omega (arith, won.contended.most, callers-moved g lost_of s.errand caller f errands has moves, b.lost) };
      installed = record {
        own =
            each-caller g (λ k e. count_by (installs_by k) w.list + errand_offers e ≤ count_by (gives_small k) s.history) s.errand caller f errands moves
            (omega (arith, b.offers, i.own caller has)) i.own;
        turns =
            each-caller g
            (λ k e. e.turns
            ≤ count_by (gives_small k) s.history + count_by (refuses_small k) s.history + count_by (installs_against k) w.list
            + turn_unanswered e)
            s.errand caller f errands moves
            (omega (arith, b.turns, i.turns caller has, quiet)) i.turns;
        found =
            each-caller g (λ k e. IsTrue (is_seeking (turn_stage_of e.point)) → (wins : ℕ) × (w.found_none k ≡ Some wins)) s.errand caller f errands moves
            (λ seeks. absurd (true≢false (sym seeks ∙ b.seeks))) i.found;
        since = λ k wins has_k is.
            holds-since s' w k wins
            (each-caller g (λ k e. (past : ℕ) → w.found_none k ≡ Some past → SinceBy s' w k past e) s.errand caller f errands moves
            (λ past noted.
            let old = i.since caller past has noted in record {
              past = old.past;
              turns = omega (arith, b.turns, old.turns, quiet);
              installed = subst (All (IsInstalledSince s w.list caller past)) (sym b.expects) (All-nil (IsInstalledSince s w.list caller past));
              discards = omega (arith, b.discards);
            })
            (λ j has_j past noted.
            let old = i.since j past has_j noted in record { past = old.past; turns = old.turns; installed = old.installed; discards = old.discards })
            k has_k wins is);
      };
    }

pub begins-won :
    (g : Geometry) (s : State) (w : Wins) (caller : ℕ) (call : Call) (s' : State) → IsWon g s w → caller < g.callers → BeginsCall s caller call s'
    → IsWon g s' w
begins-won g s w caller call s' won has b =
    subst (λ t. IsWon g t w) (sym b.after)
    (begun-won g s w caller (begun_by (s.errand caller) call) b.errands won has b.idle (begun-as (s.errand caller) call b.idle) b.moves)
