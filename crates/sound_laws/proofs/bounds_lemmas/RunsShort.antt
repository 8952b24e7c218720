-- In a run of many callers each makes few steps between those that lose or clear.
use Rattle.std.proofs.Common.{ℕ, Bool, ◌≡◌, ◌<◌, ◌≤◌, ◌+◌, ◌-◌, ◌*◌, ◌^◌, ◌∙◌, List, [], ◌∷◌, refl, arith, ap, sym, subst, inl, inr, ◌==◌, count_by, eq-eqb, ne_eqb}
use Rattle.std.proofs.lemmas.Bool.{cases_eq}
use Rattle.std.proofs.lemmas.List.Elements.{All-head, All-tail}
use Rattle.sound_state.proofs.Common.{Geometry, Need, ErrandFields, raised, settle_of, counts_lost, counts_cleared, State, Step, found_at, IsSound, one_if, CALL_STEPS}
use Rattle.sound_state.proofs.Common.{begins_alloc, alloc_begun, free_begun, write_begun, read_begun, put_begun, take_begun, Call, begun_by, BeginsCall, Move, begins}
use Rattle.sound_state.proofs.Common.{steps, Moved, Reaches}
use Rattle.sound_state.specs.Moves.{is_step_of, is_begin_of, BeginsNothing, IsNoBegin}
use Rattle.sound_laws.specs.bounds.StepsLeft.{steps_left}
use Rattle.sound_state.proofs.CountedLemmas.{without-counts, steps-counted}
use Rattle.sound_state.proofs.ReachLemmas.{moved-sound}
use Rattle.sound_laws.proofs.bounds_lemmas.LeftMost.{left-most}
use Rattle.sound_laws.proofs.bounds_lemmas.LeftSteps.{steps-go_on}
use Rattle.sound_state.proofs.shared.PointLemmas.{fits-at}
use Rattle.sound_state.proofs.shared.StepLemmas.{raised-by, raised-least}
use Rattle.sound_state.proofs.shared.TagLemmas.{cleared-below}
use Rattle.sound_laws.proofs.bounds_lemmas.CountLemmas.{count-append}

-- what a caller does, so many steps and begun calls: what it lost and cleared grows, and pays for them with the steps that it had left and what it begins
pub record Spends (g : Geometry) (e f : ErrandFields) (made begun : ℕ) : Type 0 where
  pub lost : e.lost ≤ f.lost
  pub cleared : e.cleared ≤ f.cleared
  pub paid :
      f.lost < 2 ^ 64 - 1
      → made + steps_left g f.point + CALL_STEPS * (e.lost + e.cleared) ≤ steps_left g e.point + CALL_STEPS * (begun + f.lost + f.cleared)

-- a call that begins leaves the counts of what its caller lost and cleared
same-counts : (e : ErrandFields) (words : ℕ) (n : Need) → ((begins_alloc e words n).lost ≡ e.lost) × ((begins_alloc e words n).cleared ≡ e.cleared)
same-counts e words n = grind (arith)

begun-counts : (e : ErrandFields) (call : Call) → ((begun_by e call).lost ≡ e.lost) × ((begun_by e call).cleared ≡ e.cleared)
unfolding alloc_begun free_begun write_begun read_begun put_begun take_begun
begun-counts e call = grind (arith)

-- fewer steps are left to a caller than a call makes at most
pub most-left : (g : Geometry) (s : State) (caller : ℕ) → IsSound g s → caller < g.callers → steps_left g (s.errand caller).point < CALL_STEPS
most-left g s caller sound has =
    left-most g caller (s.errand caller).point sound.checked (fits-at g s sound.parts.0 caller (s.errand caller).point sound.parts.1 has refl)

-- a count that is raised short of its end goes up by one, where it rises
pub raised-one : (b : Bool) (n : ℕ) → raised b n + 1 < 2 ^ 64 → raised b n ≡ n + one_if b
raised-one b n room = grind (arith, room)

-- the counts of what a caller lost and cleared after its step
pub step-counts :
    (s : State) (caller : ℕ) (s' : State) → Step s caller s'
    → ((s'.errand caller).lost ≡ raised (counts_lost (s.errand caller).point (found_at s caller)) (s.errand caller).lost)
    × ((s'.errand caller).cleared ≡ raised (counts_cleared (s.errand caller).point (found_at s caller)) (s.errand caller).cleared)
unfolding settle_of
step-counts s caller s' step = (ap (λ e. e.lost) step.errand.here, ap (λ e. e.cleared) step.errand.here)

-- a step of the caller is paid by what it has left, lost and cleared
pub step-spends :
    (g : Geometry) (s : State) (caller : ℕ) (s' : State) → IsSound g s → caller < g.callers → Step s caller s'
    → Spends g (s.errand caller) (s'.errand caller) 1 0
step-spends g s caller s' sound has step =
    let e = s.errand caller in
    let plain = without-counts g s sound in
    let b = counts_lost e.point (found_at s caller) in
    let c = counts_cleared e.point (found_at s caller) in
    let counts = step-counts s caller s' step in
    let cleared : (s'.errand caller).cleared ≡ e.cleared + one_if c = counts.1 ∙ raised-by c e.cleared (cleared-below g s plain caller has) in
    let most = most-left g s' caller (steps-counted g s caller s' sound has step) has in
    record {
      lost = omega (arith, counts.0, raised-least b e.lost (sound.parts.1.formed.errands caller has).lost);
      cleared = omega (arith, cleared);
      paid = λ below.
          let up : (s'.errand caller).lost ≡ e.lost + one_if b = counts.0 ∙ raised-one b e.lost (omega (arith, below, counts.0)) in
          elim (steps-go_on g s caller s' plain has step) [
            | inl loses ↦ omega (arith, up, cleared, most, ap one_if loses)
            | inr rest ↦
                elim rest [ inl clears ↦ omega (arith, up, cleared, most, ap one_if clears) | inr fewer ↦ omega (arith, up, cleared, fewer) ]
          ];
    }

-- a caller that does nothing in a move spends nothing, and its counts stay
pub same-spends : (g : Geometry) (e f : ErrandFields) → f ≡ e → Spends g e f 0 0
same-spends g e f is = record {
  lost = omega (arith, ap (λ x. x.lost) is);
  cleared = omega (arith, ap (λ x. x.cleared) is);
  paid = λ below. rw is (omega arith);
}

-- what a caller spends in two goes, it spends together
pub then-spends :
    (g : Geometry) (e f h : ErrandFields) (made more begun : ℕ) {then_begun : ℕ} → Spends g e f made begun → Spends g f h more then_begun
    → Spends g e h (made + more) (begun + then_begun)
then-spends g e f h made more begun first others = record {
  lost = omega (arith, first.lost, others.lost);
  cleared = omega (arith, first.cleared, others.cleared);
  paid = λ below. let early = first.paid (omega (arith, below, others.lost)) in omega (arith, early, others.paid below);
}

-- a move of any caller is paid by what a caller has left, lost and cleared
move-spends :
    (g : Geometry) (s : State) (move : Move) (s' : State) (caller : ℕ) → IsSound g s → caller < g.callers → Moved g s move s'
    → Spends g (s.errand caller) (s'.errand caller) (one_if (is_step_of caller move)) (one_if (is_begin_of caller move))
move-spends g s (begins k call) s' caller sound has moved =
    elim (cases_eq caller k) [
      | inl is ↦
          let own : BeginsCall s caller call s' = subst (λ i. BeginsCall s i call s') (sym is) moved.1 in
          let same = begun-counts (s.errand caller) call in
          let here : s'.errand caller ≡ begun_by (s.errand caller) call =
          subst (λ t. t.errand caller ≡ begun_by (s.errand caller) call) (sym own.after) own.moves.here in
          let lost : (s'.errand caller).lost ≡ (s.errand caller).lost = ap (λ e. e.lost) here ∙ same.0 in
          let cleared : (s'.errand caller).cleared ≡ (s.errand caller).cleared = ap (λ e. e.cleared) here ∙ same.1 in
          let most = most-left g s' caller (moved-sound g s (begins k call) s' sound moved) has in
          let one : one_if (k == caller) ≡ 1 = ap one_if (eq-eqb k caller (sym is)) in
          record { lost = omega (arith, lost); cleared = omega (arith, cleared); paid = λ below. omega (arith, one, most, lost, cleared) }
      | inr other ↦
          rw (ne_eqb k caller (λ is. other (sym is)))
          (same-spends g (s.errand caller) (s'.errand caller)
          (subst (λ t. t.errand caller ≡ s.errand caller) (sym moved.1.after) (moved.1.moves.elsewhere caller other)))
    ]
move-spends g s (steps k) s' caller sound has moved =
    elim (cases_eq caller k) [
      | inl is ↦ rw (eq-eqb k caller (sym is)) (step-spends g s caller s' sound has (subst (λ i. Step s i s') (sym is) moved.1))
      | inr other ↦
          rw (ne_eqb k caller (λ is. other (sym is)))
          (same-spends g (s.errand caller) (s'.errand caller) (moved.1.errand.elsewhere caller other))
    ]

-- a run is paid by what a caller has left, lost and cleared
run-spends :
    (g : Geometry) (s : State) (moves : List Move) (s' : State) (caller : ℕ) → IsSound g s → caller < g.callers → Reaches g s moves s'
    → Spends g (s.errand caller) (s'.errand caller) (count_by (is_step_of caller) moves) (count_by (is_begin_of caller) moves)
run-spends g s [] s' caller sound has reached = same-spends g (s.errand caller) (s'.errand caller) (ap (λ t. t.errand caller) reached)
run-spends g s (move ∷ rest) s' caller sound has (next, moved, reached) =
    let first = move-spends g s move next caller sound has moved in
    let others = run-spends g next rest s' caller (moved-sound g s move next sound moved) has reached in
    let both = then-spends g (s.errand caller) (next.errand caller) (s'.errand caller) _ _ _ first others in
    record {
      lost = both.lost;
      cleared = both.cleared;
      paid = λ below.
          omega (arith, both.paid below, count-append (is_step_of caller) (move ∷ []) rest, count-append (is_begin_of caller) (move ∷ []) rest);
    }

pub counts-grow :
    (g : Geometry) (s : State) (moves : List Move) (s' : State) (caller : ℕ) → IsSound g s → caller < g.callers → Reaches g s moves s'
    → ((s.errand caller).lost ≤ (s'.errand caller).lost) × ((s.errand caller).cleared ≤ (s'.errand caller).cleared)
counts-grow g s moves s' caller sound has reached = let spends = run-spends g s moves s' caller sound has reached in (spends.lost, spends.cleared)

pub run-spent :
    (g : Geometry) (s : State) (moves : List Move) (s' : State) (caller : ℕ) → IsSound g s → caller < g.callers → Reaches g s moves s'
    → (s'.errand caller).lost < 2 ^ 64 - 1
    → count_by (is_step_of caller) moves + steps_left g (s'.errand caller).point
    ≤ steps_left g (s.errand caller).point + CALL_STEPS * (count_by (is_begin_of caller) moves
    + ((s'.errand caller).lost - (s.errand caller).lost) + ((s'.errand caller).cleared - (s.errand caller).cleared))
run-spent g s moves s' caller sound has reached below =
    let spends = run-spends g s moves s' caller sound has reached in omega (arith, spends.lost, spends.cleared, spends.paid below)

-- a caller that begins nothing begins no call
begun-none : (caller : ℕ) (moves : List Move) → BeginsNothing caller moves → count_by (is_begin_of caller) moves ≡ 0
begun-none caller [] none = refl
begun-none caller (begins other call ∷ rest) none =
    let apart = ne_eqb other caller (All-head (IsNoBegin caller) (begins other call) rest none) in
    let others = begun-none caller rest (All-tail (IsNoBegin caller) (begins other call) rest none) in
    omega (arith, count-append (is_begin_of caller) (begins other call ∷ []) rest, others, ap one_if apart)
begun-none caller (steps other ∷ rest) none =
    omega (
      arith,
      count-append (is_begin_of caller) (steps other ∷ []) rest,
      begun-none caller rest (All-tail (IsNoBegin caller) (steps other) rest none),
    )

-- within a call a caller makes fewer steps than the most, and as many more for each exchange that it lost and superblock that it cleared
pub run-short :
    (g : Geometry) (s : State) (moves : List Move) (s' : State) (caller : ℕ) → IsSound g s → caller < g.callers → Reaches g s moves s'
    → (s'.errand caller).lost < 2 ^ 64 - 1 → BeginsNothing caller moves
    → count_by (is_step_of caller) moves
    < CALL_STEPS * (1 + ((s'.errand caller).lost - (s.errand caller).lost) + ((s'.errand caller).cleared - (s.errand caller).cleared))
run-short g s moves s' caller sound has reached below none =
    omega (arith, begun-none caller moves none, run-spent g s moves s' caller sound has reached below, most-left g s caller sound has)
