-- The lanes of a trace one after the other, in the order that the trace gives.
use Rattle.std.proofs.Common.{ℕ, zero, suc, ◌≡◌, ◌<◌, ◌≤◌, ◌+◌, ◌-◌, Result, Ok, Err, OnErr, List, [], ◌∷◌, ◌++◌, length, get_or, set, refl, sym, ap, ◌∙◌, subst, inl, inr, arith, append_assoc, add-one}
use Rattle.std.specs.Prelude.{Contains, replicate}
use Rattle.std.proofs.lemmas.List.{append-nil}
use Rattle.std.proofs.lemmas.List.Elements.{Contains-append_cases}
use Rattle.std.proofs.lemmas.Bool.{cases_eq}
use Rattle.heap_geometry.specs.declared.geometry.Geometry.{Geometry}
use Rattle.trace_text.specs.declared.trace.Op.{Op}
use Rattle.trace_text.specs.declared.trace.OrderRun.{OrderRun}
use Rattle.trace_text.specs.declared.trace.Trace.{Trace}
use Rattle.trace_text.specs.Traces.{IsTrace}
use Rattle.sound_state.specs.Runs.{Move}
use Rattle.step_machine.specs.Cores.{CoreFields}
use Rattle.lane_engine.specs.declared.grip.Grip.{Grip}
use Rattle.trace_lane.specs.declared.lane.LaneState.{LaneState}
use Rattle.trace_lane.specs.Begun.{calls_of}
use Rattle.trace_lane.specs.States.{StandsOn}
use Rattle.lane_runner.specs.Driven.{IsDrivenSoFar, steppers_of}
use Rattle.lane_runner.specs.Orders.{InOrder, OneByOne}
use Rattle.lane_runner.specs.Running.{HasEnded, HasEndedIn, HasRun, HasRunOut, HasRunSome, HaveFinished, HaveRunBefore, LanesRan, operations_in}
use Rattle.lane_runner.proofs.RunLanes.{contains-none, element_at, ended-at, on-way, one-ran, only, still}
use Rattle.lane_runner.proofs.Numbered.{at-least-one}

pub on-err : {T E : Type 0} (r : Result T E) (P : Type 0) → P → OnErr r P
on-err (Ok x) P p = tt
on-err (Err e) P p = p

-- lanes that make no step are in order
one-by-none : (lanes lane : ℕ) → OneByOne lane lanes []
one-by-none zero lane = refl
one-by-none (suc lanes) lane = (0, [], refl, contains-none lane, one-by-none lanes (suc lane))

pub order-none : (runs : List OrderRun) (lanes : ℕ) → InOrder runs lanes []
order-none [] lanes = one-by-none lanes 0
order-none (run ∷ runs) lanes = (0, [], refl, omega arith, λ early. contains-none run.lane, order-none runs lanes)

-- lanes that have run, and may stop here, are what a machine has been driven by so far
unfoldable pub so-far :
    {passed : ℕ → ℕ → Type 0} {trace : Trace} {IsRest : List ℕ → Type 0} {c : CoreFields} {lanes : List (LaneState Grip)}
    → HaveRunBefore passed trace IsRest c lanes → IsRest [] → IsDrivenSoFar trace trace.orders c
so-far {passed = passed} {trace = trace} {c = c} {lanes = lanes} h none =
    let m = h.ran.moved in
    record {
      geometry = m.heap;
      opened = m.opened;
      opens = m.opens;
      moves = h.moves;
      by_lanes = m.by_lanes;
      drives = m.drives;
      counted = m.counted;
      order =
          subst (InOrder trace.orders (length trace.lanes)) (append-nil (steppers_of h.moves)) (h.order [] (λ lane ended. contains-none lane) none);
      on_way = λ lane lt.
          let below : lane < length lanes = omega (arith, lt, h.ran.all) in
          let it = element_at lanes lane below in
          on-way passed trace c h.moves lane it.0 m.heap (h.ran.each lane it.0 below it.1);
    }

-- each lane stands on the machine
pub stands-on :
    {passed : ℕ → ℕ → Type 0} {trace : Trace} {c : CoreFields} {lanes : List (LaneState Grip)} {moves : List Move} {operations : List Op}
    {state : LaneState Grip} (lane : ℕ) → IsTrace trace → LanesRan passed trace c lanes moves → lane < length lanes
    → operations ≡ operations_in trace lane → state ≡ get_or lanes lane state → StandsOn c operations state
stands-on {trace = trace} {c = c} {moves = moves} {state = state} lane is ran lt mine there =
    let it = ran.each lane state lt there in
    subst (λ ops. StandsOn c ops state) (sym mine)
    (record {
      core = ran.core;
      has = omega (arith, it.number, lt, ran.all, at-least-one (length trace.lanes) trace.heap.callers is.callers, ap (λ (g : Geometry). g.callers) ran.moved.heap);
      calls = calls_of state.caller moves;
      stands = it.stands;
    })

-- a lane goes on: behind its steps come others
module _ {passed : ℕ → ℕ → Type 0} {trace : Trace} {IsRest : List ℕ → Type 0} {c after : CoreFields} {lanes : List (LaneState Grip)}
    {operations : List Op} {old new : LaneState Grip} {made : ℕ} (lane : ℕ) (h : HaveRunBefore passed trace IsRest c lanes) (lt : lane < length lanes)
    (mine : operations ≡ operations_in trace lane) (is : old ≡ get_or lanes lane old) (run : HasRun passed c after operations old new made) where
  runs-on :
      (Later : List ℕ → Type 0)
      → ((rest : List ℕ) → (HasEnded operations new → ¬ Contains rest lane) → Later rest → IsRest (replicate made lane ++ rest))
      → HaveRunBefore passed trace Later after (set lanes lane new)
  runs-on Later goes =
      let one = subst (λ ops. HasRun passed c after ops old new made) mine run in
      record {
        moves = h.moves ++ one.moves;
        ran = one-ran lane h.ran lt is one;
        order = λ rest none later.
            subst (InOrder trace.orders (length trace.lanes))
            (sym (append_assoc (steppers_of h.moves) (replicate made lane) rest) ∙ ap (λ xs. xs ++ rest) (sym (only lane h.ran lt is one)))
            (h.order (replicate made lane ++ rest)
            (λ at ended there.
            let kept = still lane h.ran lt is one at ended in
            elim (Contains-append_cases (replicate made lane) rest at there) [ inl here ↦ kept.0 here | inr behind ↦ none at kept.1 behind ])
            (goes rest (λ ended. none lane (ended-at lane h.ran lt is one (subst (λ ops. HasEnded ops new) mine ended))) later));
      }

  -- or it stops for want of memory
  stops : IsRest (replicate made lane) → IsDrivenSoFar trace trace.orders after
  stops last =
      so-far (runs-on (λ rest. rest ≡ [])
      (λ rest none no. subst (λ xs. IsRest (replicate made lane ++ xs)) (sym no) (subst IsRest (sym (append-nil (replicate made lane))) last))) refl

-- a lane follows an order run
module _ {passed : ℕ → ℕ → Type 0} {trace : Trace} {c after : CoreFields} {lanes : List (LaneState Grip)} {operations : List Op} {old new : LaneState Grip}
    {run : OrderRun} (later : List OrderRun) (lane : ℕ) (lt : lane < length lanes) (number : run.lane ≡ lane) (mine : operations ≡ operations_in trace lane)
    (is : old ≡ get_or lanes lane old) (h : HaveRunBefore passed trace (InOrder (run ∷ later) (length trace.lanes)) c lanes) where
  pub followed :
      HasRunSome passed c after operations old new run.steps → HaveRunBefore passed trace (InOrder later (length trace.lanes)) after (set lanes lane new)
  followed some =
      runs-on lane h lt mine is some.ran (InOrder later (length trace.lanes)) (λ rest none follows. (
        some.made,
        rest,
        ap (λ k. replicate some.made k ++ rest) (sym number),
        some.most,
        λ early there. none (some.ended early) (subst (Contains rest) number there),
        follows,
      ))

  pub follow-stopped : (made : ℕ) × HasRun passed c after operations old new made × (made ≤ run.steps) → IsDrivenSoFar trace trace.orders after
  follow-stopped (made, ran, few) =
      stops lane h lt mine is ran (
        made,
        [],
        ap (replicate made) (sym number) ∙ sym (append-nil (replicate made run.lane)),
        few,
        λ early. contains-none run.lane,
        order-none later (length trace.lanes),
      )

-- no lane has gone on to its end yet
pub finished-none :
    {passed : ℕ → ℕ → Type 0} {trace : Trace} {c : CoreFields} {lanes : List (LaneState Grip)}
    → HaveRunBefore passed trace (OneByOne 0 (length trace.lanes)) c lanes → HaveFinished passed trace 0 c lanes
finished-none {passed = passed} {trace = trace} {c = c} {lanes = lanes} h = record {
  run = subst (λ n. HaveRunBefore passed trace (OneByOne 0 n) c lanes) (let all : length trace.lanes ≡ length trace.lanes - 0 = omega arith in all) h;
  ended = λ lane lt. absurd (omega (arith, lt));
}

-- one lane more goes on to its end
left-more : (count n : ℕ) → count < n → suc (n - (count + 1)) ≡ n - count
left-more count n lt = omega (arith, lt)

module _ {passed : ℕ → ℕ → Type 0} {trace : Trace} {c after : CoreFields} {lanes : List (LaneState Grip)} {operations : List Op} {old new : LaneState Grip}
    (count : ℕ) (lt : count < length lanes) (mine : operations ≡ operations_in trace count) (is : old ≡ get_or lanes count old)
    (h : HaveFinished passed trace count c lanes) where
  pub finished : HasRunOut passed c after operations old new → HaveFinished passed trace (count + 1) after (set lanes count new)
  finished out = record {
    run =
        runs-on count h.run lt mine is out.ran (OneByOne (count + 1) (length trace.lanes - (count + 1))) (λ rest none turn.
        subst (λ n. OneByOne count n (replicate out.made count ++ rest))
        (left-more count (length trace.lanes) (subst (λ n. count < n) h.run.ran.all lt))
        (out.made, rest, refl, none out.ended, subst (λ k. OneByOne k (length trace.lanes - (count + 1)) rest) (add-one count) turn));
    ended = λ lane lt'.
        let ran = subst (λ ops. HasRun passed c after ops old new out.made) mine out.ran in
        elim (cases_eq lane count) [
          | inl same ↦
              subst (HasEndedIn trace (set lanes count new)) (sym same)
              (ended-at count h.run.ran lt is ran (subst (λ ops. HasEnded ops new) mine out.ended))
          | inr ne ↦ (still count h.run.ran lt is ran lane (h.ended lane (omega (arith, lt', ne)))).1
        ];
  }

  pub finish-stopped : (made : ℕ) × HasRun passed c after operations old new made → IsDrivenSoFar trace trace.orders after
  finish-stopped (made, ran) =
      stops count h.run lt mine is ran
      (subst (λ n. OneByOne count n (replicate made count)) (left-more count (length trace.lanes) (subst (λ n. count < n) h.run.ran.all lt))
      (made, [], sym (append-nil (replicate made count)), contains-none count, one-by-none (length trace.lanes - (count + 1)) (suc count)))
