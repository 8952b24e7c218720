-- Advances of one lane on a machine, one after another.
use Rattle.std.proofs.Common.{ℕ, ◌≡◌, ◌+◌, Bool, true, false, if◌then◌else◌, List, [], None, ◌∷◌, ◌++◌, length, refl, sym, ap, ◌∙◌, subst, inl, inr, arith, append_assoc}
use Rattle.std.proofs.lemmas.Bool.{true≢false}
use Rattle.std.specs.Prelude.{All, count_by}
use Rattle.std.proofs.lemmas.List.{append-nil}
use Rattle.std.proofs.lemmas.List.Elements.{All-nil, All-append}
use Rattle.trace_text.specs.declared.trace.Op.{Op}
use Rattle.errand_steps.specs.Begins.{IsIdle}
use Rattle.errand_steps.specs.Calls.{take as take_call}
use Rattle.sound_state.specs.Moves.{is_step}
use Rattle.sound_state.specs.Runs.{Move, begins, steps}
use Rattle.step_machine.specs.Cores.{CoreFields, errand_at}
use Rattle.lane_engine.specs.declared.grip.Grip.{Grip}
use Rattle.trace_lane.specs.declared.lane.LaneState.{LaneState}
use Rattle.trace_lane.specs.Begun.{calls_of}
use Rattle.lane_runner.specs.Driven.{steppers_of}
use Rattle.trace_lane.specs.Paths.{IsBy, MovesLead, FirstPassed}
use Rattle.lane_runner.specs.Running.{HasEnded, HasRun}
use Rattle.trace_lane.specs.Advances.{AdvancesOn, HasAdvanced}
use Rattle.trace_lane.specs.Scripts.{begun_count, script_left}
use Rattle.trace_lane.proofs.AdvanceLemmas.{calls-append, leads-append, steps-append}
use Rattle.trace_lane.specs.States.{IsLaneOn, StandsOn, work_at}
use Rattle.lane_engine.specs.Engines.{machine_at}
use Rattle.trace_lane.proofs.EndedLemmas.{lane-resting}

-- the callers that made steps, of moves one after the other
pub steppers-append : (first second : List Move) → steppers_of (first ++ second) ≡ steppers_of first ++ steppers_of second
steppers-append [] second = refl
steppers-append (begins other call ∷ first) second = steppers-append first second
steppers-append (steps other ∷ first) second = ap (λ xs. other ∷ xs) (steppers-append first second)

-- a lane that has made no step yet
pub ran-none :
    {passed : ℕ → ℕ → Type 0} {c : CoreFields} {operations : List Op} {lane : LaneState Grip} → StandsOn c operations lane
    → HasRun passed c c operations lane lane 0
ran-none {c = c} {operations = operations} {lane = lane} stands = record {
  heap = refl;
  caller = refl;
  moves = [];
  leads = refl;
  by_caller = All-nil (IsBy lane.caller);
  counts = refl;
  calls = λ calls on. subst (IsLaneOn c operations lane) (sym (append-nil calls)) on;
  stands = stands;
  still = λ ended. (refl, ended);
  gate = λ gone. gone;
}

-- a lane has run, and then runs further
ran-more :
    {passed : ℕ → ℕ → Type 0} {a b c : CoreFields} {operations : List Op} {old mid new : LaneState Grip} {m n : ℕ}
    → HasRun passed a b operations old mid m → HasRun passed b c operations mid new n → HasRun passed a c operations old new (m + n)
ran-more {a = a} {b = b} {c = c} {operations = operations} {old = old} {mid = mid} {new = new} h k =
    let by : All (IsBy old.caller) k.moves = subst (λ caller. All (IsBy caller) k.moves) h.caller k.by_caller in
    record {
      heap = k.heap ∙ h.heap;
      caller = k.caller ∙ h.caller;
      moves = h.moves ++ k.moves;
      leads = leads-append a b c h.moves k.moves h.leads k.leads;
      by_caller = All-append (IsBy old.caller) h.moves k.moves h.by_caller by;
      counts = steps-append h.moves k.moves ∙ (let e = h.counts in let f = k.counts in cc);
      calls = λ calls on.
          let next = k.calls (calls ++ calls_of old.caller h.moves) (h.calls calls on) in
          let same : (calls ++ calls_of old.caller h.moves) ++ calls_of mid.caller k.moves ≡ calls ++ calls_of old.caller (h.moves ++ k.moves) =
          ap (λ caller. (calls ++ calls_of old.caller h.moves) ++ calls_of caller k.moves) h.caller
          ∙ append_assoc calls (calls_of old.caller h.moves) (calls_of old.caller k.moves)
          ∙ ap (λ xs. calls ++ xs) (sym (calls-append old.caller h.moves k.moves)) in
          subst (IsLaneOn c operations new) same next;
      stands = k.stands;
      still = λ ended.
          let first = h.still ended in
          let second = k.still first.1 in
          (omega (arith, first.0, second.0), second.1);
      gate = λ gone. k.gate (h.gate gone);
    }

-- the errand of a lane between two operations is idle
pub between-idle :
    (c : CoreFields) (operations : List Op) (lane : LaneState Grip) → StandsOn c operations lane → lane.work ≡ None
    → IsIdle (errand_at c.errands lane.caller)
between-idle c operations lane stands is = (lane-resting stands.stands.stands (ap (work_at (machine_at c lane.caller)) is)).rests.idle

-- a step is made by a caller in a call
first-idle :
    (c after : CoreFields) (caller : ℕ) (moves : List Move) → MovesLead c (steps caller ∷ moves) after
    → IsIdle (errand_at c.errands caller) → ⊥
first-idle c after caller moves leads idle = true≢false (sym idle ∙ leads.1.moved.1.busy)

zero≢one : ◌≡◌ {A = ℕ} 0 1 → ⊥
zero≢one is = omega (arith, is)

none-made : (made : Bool) → ◌≡◌ {A = ℕ} 0 (if made then 1 else 0) → made ≡ false
none-made false is = refl
none-made true is = absurd (zero≢one is)

-- a lane that has ended has nothing of its script left
ended-left : (operations : List Op) (lane : LaneState Grip) → HasEnded operations lane → script_left operations lane.outcomes.items lane.work ≡ 0
ended-left operations lane ended = omega (arith, ended.all)

-- a lane that has ended makes no step, and stays so
ended-stays :
    (c after : CoreFields) (operations : List Op) (old new : LaneState Grip) (made : Bool) → StandsOn c operations old
    → HasAdvanced c after old.caller operations old new made
    → HasEnded operations old → (made ≡ false) × HasEnded operations new
ended-stays c after operations old new made stands advanced ended =
    let idle = between-idle c operations old stands ended.between in
    elim advanced.goes_on [
      | inl lt ↦ absurd (
          let none : script_left operations old.outcomes.items old.work ≡ 0 = ended-left operations old ended in
          omega (arith, lt, none)
          )
      | inr same ↦ elim same.2 [
        | inl stays ↦ elim stays [
          | inl is ↦ absurd (first-idle c after old.caller [] (subst (λ moves. MovesLead c moves after) is advanced.leads) idle)
          | inr again ↦ absurd (
              first-idle c after old.caller (begins old.caller (take_call again.0) ∷ [])
              (subst (λ moves. MovesLead c moves after) again.1 advanced.leads) idle
              )
        ]
        | inr is ↦ (
          let e = advanced.one_step in let f = ap (count_by is_step) is in none-made made (sym f ∙ e),
          record { between = same.1 ∙ ended.between; all = ap length same.0 ∙ ended.all },
        )
      ]
    ]

-- an advance is a run of one step, or of none
advanced-ran :
    {passed : ℕ → ℕ → Type 0} {c after : CoreFields} {operations : List Op} {old new : LaneState Grip} {made : Bool} → StandsOn c operations old
    → AdvancesOn passed operations c after old new made → HasRun passed c after operations old new (if made then 1 else 0)
advanced-ran {passed = passed} {c = c} {after = after} {operations = operations} {old = old} {new = new} {made = made} stands goes = record {
  heap = goes.geometry;
  caller = goes.caller;
  moves = goes.advanced.moves;
  leads = goes.advanced.leads;
  by_caller = goes.advanced.by_caller;
  counts = goes.advanced.one_step;
  calls = goes.advanced.script;
  stands = goes.stands;
  still = λ ended.
      let stays = ended-stays c after operations old new made stands goes.advanced ended in
      (ap (λ b. if b then 1 else 0) stays.0, stays.1);
  gate = λ gone. subst (λ caller. FirstPassed passed caller (begun_count new.outcomes.items new.work)) (sym goes.caller) (goes.gate gone);
}

-- a run of a lane with an advance behind it is a run
pub next-ran :
    {passed : ℕ → ℕ → Type 0} {first c after : CoreFields} {operations : List Op} {start old new : LaneState Grip} {made : ℕ} {one : Bool}
    → HasRun passed first c operations start old made → AdvancesOn passed operations c after old new one
    → HasRun passed first after operations start new (made + (if one then 1 else 0))
next-ran before goes = ran-more before (advanced-ran before.stands goes)
