-- Runs of moves, seen by a caller that begins nothing among them.
use Rattle.std.proofs.Common.{ℕ, ◌≡◌, ◌<◌, List, [], ◌∷◌, inl, inr, refl, sym, ◌∙◌, subst, true≢false}
use Rattle.std.proofs.lemmas.Bool.{cases_eq, cases_Bool}
use Rattle.std.proofs.lemmas.List.Elements.{All-head, All-tail}
use Rattle.sound_state.proofs.Common.{Geometry, Event, own, Reply, State, Step, found_at, IsSound, Done, IsIdle, IsBusy, Call, answer_of, is_idle, BeginsCall, Move, begins}
use Rattle.sound_state.proofs.Common.{steps, Moved, Reaches}
use Rattle.sound_laws.specs.events.Calls.{IsInCall, HasEndedCall}
use Rattle.sound_state.specs.Moves.{IsNoBegin, BeginsNothing}
use Rattle.sound_state.proofs.ReachLemmas.{moved-sound, reached-sound}
use Rattle.sound_laws.proofs.events_lemmas.CallSteps.{IsAside, begins-aside, steps-aside, begins-in_call, moved-in_call, step-ends_call}

-- a caller that is in no call stays in none
moved-aside :
    (g : Geometry) (s : State) (caller : ℕ) (move : Move) (s' : State) → IsIdle (s.errand caller) → IsNoBegin caller move → Moved g s move s'
    → IsAside caller s s'
moved-aside g s caller (begins other call) s' idle none moved = begins-aside s caller other call s' none moved.1
moved-aside g s caller (steps other) s' idle none moved =
    elim (cases_eq other caller) [
      | inl same ↦
          let busy : IsBusy (s.errand caller) = subst (λ i. IsBusy (s.errand i)) same moved.1.busy in absurd (true≢false (sym idle ∙ busy))
      | inr apart ↦ steps-aside s caller other s' apart moved.1
    ]

pub run-aside :
    (g : Geometry) (s : State) (caller : ℕ) (moves : List Move) (s' : State) → IsIdle (s.errand caller) → BeginsNothing caller moves
    → Reaches g s moves s' → IsAside caller s s'
run-aside g s caller [] s' idle none reached = subst (IsAside caller s) (sym reached) (record { errand = refl; events = refl })
run-aside g s caller (move ∷ moves) s' idle none reached =
    let first = moved-aside g s caller move reached.0 idle (All-head (IsNoBegin caller) move moves none) reached.1 in
    let rest = run-aside g reached.0 caller moves s' (subst IsIdle (sym first.errand) idle) (All-tail (IsNoBegin caller) move moves none) reached.2 in
    record { errand = rest.errand ∙ first.errand; events = rest.events ∙ first.events }

-- a caller that is in a call and begins none stays in it through a run, while it is busy
run-in_call :
    (g : Geometry) (s : State) (caller : ℕ) (call : Call) (before : List Event) (moves : List Move) (s' : State) → IsSound g s
    → caller < g.callers → IsInCall caller call before s → BeginsNothing caller moves → Reaches g s moves s' → IsBusy (s'.errand caller)
    → IsInCall caller call before s'
run-in_call g s caller call before [] s' sound has now none reached busy = subst (IsInCall caller call before) (sym reached) now
run-in_call g s caller call before (move ∷ moves) s' sound has now none reached busy =
    elim (cases_Bool (is_idle (reached.0.errand caller).point)) [
      | inl idle ↦
          let rest = run-aside g reached.0 caller moves s' idle (All-tail (IsNoBegin caller) move moves none) reached.2 in
          absurd (true≢false (sym idle ∙ subst IsBusy rest.errand busy))
      | inr going ↦
          run-in_call g reached.0 caller call before moves s' (moved-sound g s move reached.0 sound reached.1) has
          (moved-in_call g s caller call before move reached.0 sound has now reached.1 going) (All-tail (IsNoBegin caller) move moves none) reached.2 busy
    ]

-- a caller stays in the call that it began through a run, while it is busy
pub begun-in_call :
    (g : Geometry) (s : State) (caller : ℕ) (call : Call) (begun : State) (moves : List Move) (s' : State) → IsSound g s → caller < g.callers
    → BeginsCall s caller call begun → BeginsNothing caller moves → Reaches g begun moves s' → IsBusy (s'.errand caller)
    → IsInCall caller call (own caller s.history) s'
begun-in_call g s caller call begun moves s' sound has b none reached busy =
    elim (cases_Bool (is_idle (begun.errand caller).point)) [
      | inl idle ↦
          let rest = run-aside g begun caller moves s' idle none reached in absurd (true≢false (sym idle ∙ subst IsBusy rest.errand busy))
      | inr going ↦
          run-in_call g begun caller call (own caller s.history) moves s' (moved-sound g s (begins caller call) begun sound (has, b)) has
          (begins-in_call g s caller call begun sound has b going) none reached busy
    ]

-- a call that began, and then a run, comes to its end with its answer
pub begun-ends :
    (g : Geometry) (s : State) (caller : ℕ) (call : Call) (begun : State) (moves : List Move) (later after : State) (r : Reply) → IsSound g s
    → caller < g.callers → BeginsCall s caller call begun → BeginsNothing caller moves → Reaches g begun moves later → Step later caller after
    → answer_of (later.errand caller) (found_at later caller) ≡ Done r → HasEndedCall caller call (own caller s.history) r after
begun-ends g s caller call begun moves later after r sound has b none reached step is =
    let sound_later = reached-sound g begun moves later (moved-sound g s (begins caller call) begun sound (has, b)) reached in
    step-ends_call g later caller call (own caller s.history) after r sound_later has
    (begun-in_call g s caller call begun moves later sound has b none reached step.busy) step is
