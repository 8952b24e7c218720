-- The whole run of a trace, from the lanes' runs.
use Rattle.std.proofs.Common.{ℕ, ◌≡◌, ◌<◌, ◌≤◌, ◌-◌, if◌then◌else◌, None, List, [], ◌∷◌, length, map, min, get_or, Result, Ok, Err, Vec, Global, IfOk, refl, sym, ap, ◌∙◌, subst, inl, inr, arith, length-append, ◌++◌, ◌+◌}
use Rattle.std.specs.Prelude.{replicate}
use Rattle.std.specs.declared.alloc.AllocError.{AllocError}
use Rattle.std.proofs.lemmas.List.{get_or-map, length-map}
use Rattle.std.proofs.lemmas.List.Elements.{All-nil}
use Rattle.std.proofs.lemmas.Bool.{cases_Bool, cases_lt}
use Rattle.heap_geometry.specs.declared.geometry.Geometry.{Geometry}
use Rattle.word_table.specs.declared.name.WordName.{WordName}
use Rattle.word_table.specs.Table.{exists}
use Rattle.word_table.specs.Words.{word_in}
use Rattle.word_table.proofs.NameLemmas.{true-Exists}
use Rattle.trace_text.specs.declared.limits.TheConstants.{REGISTERS}
use Rattle.trace_text.specs.declared.trace.Op.{Op}
use Rattle.trace_text.specs.declared.trace.Trace.{Trace}
use Rattle.trace_text.specs.Traces.{IsTrace}
use Rattle.errand_steps.specs.Begins.{IsIdle}
use Rattle.errand_steps.specs.Errands.{open_errand}
use Rattle.errand_steps.specs.Openings.{opening, IsOpening}
use Rattle.sound_state.specs.Runs.{Move}
use Rattle.sound_laws.specs.bounds.Contention.{lost_of}
use Rattle.sound_state.specs.Sums.{callers_sum}
use Rattle.sound_state.proofs.shared.SumLemmas.{term-sum}
use Rattle.step_machine.specs.Cores.{CoreFields, IsCore, errand_at, state_of}
use Rattle.step_machine.specs.Openings.{IsOpened}
use Rattle.lane_engine.specs.declared.grip.Grip.{Grip}
use Rattle.lane_outcomes.specs.declared.outcome.Outcome.{Outcome}
use Rattle.step_machine.specs.Moments.{IsServed}
use Rattle.step_machine.proofs.MomentLemmas.{core-served}
use Rattle.lane_outcomes.specs.Fits.{Fits}
use Rattle.lane_outcomes.specs.Passed.{AllPassed}
use Rattle.lane_outcomes.specs.Standing.{setting_in}
use Rattle.trace_lane.specs.declared.lane.LaneState.{LaneState}
use Rattle.trace_lane.specs.Begun.{calls_of}
use Rattle.lane_engine.specs.Engines.{machine_at}
use Rattle.trace_lane.specs.Lanes.{IsLane}
use Rattle.lane_runner.specs.Driven.{IsAtItsEnd, IsDriven, IsDrivenSoFar, lost_by_all, mover_of}
use Rattle.lane_runner.specs.Orders.{InOrder, OneByOne}
use Rattle.trace_lane.specs.Paths.{FirstPassed}
use Rattle.lane_runner.specs.Running.{HasEnded, HasPassed, HaveFinished, LanesRan, operations_in, HaveRunBefore, IsRunning}
use Rattle.trace_lane.specs.Scripts.{Scripts, begun_count}
use Rattle.trace_lane.specs.States.{AreNew, IsNew, work_at}
use Rattle.trace_lane.proofs.EndedLemmas.{lane-new, lane-script, lane-start, lane-resting}
use Rattle.trace_lane.proofs.FitLemmas.{lane-fits}
use Rattle.lane_runner.proofs.RunLanes.{element_at, registers_on, stands-there}
use Rattle.trace_lane.proofs.MakingLemmas.{empty}
use Rattle.lane_runner.proofs.Numbered.{all-gone, at-least-one, pushed}
use Rattle.step_machine.proofs.CoreLemmas.{core-sound}
use Rattle.lane_runner.proofs.ClosedFits.{events-below, plain-fit}
use Rattle.lane_runner.proofs.OrderLemmas.{so-far, order-none}
use Rattle.pool_model.specs.Histories.{own}

-- the machine before its first step
opened-word : (g : Geometry) (c : CoreFields) (name : WordName) → IsOpened g (opening g) c → word_in g c.words name ≡ (if exists g name then opening g name else 0)
unfolding word_in
opened-word g c name opened =
    elim (cases_Bool (exists g name)) [
      | inl is ↦ opened.words name (true-Exists g name is) ∙ ap (λ b. if b then opening g name else 0) (sym is)
      | inr isnt ↦ rw isnt refl
    ]

pub opened-opens : (g : Geometry) (c : CoreFields) → IsOpened g (opening g) c → IsOpening g (opening g) (state_of c)
opened-opens g c opened = record {
  word = λ name. ap (λ h. word_in h c.words name) opened.geometry ∙ opened-word g c name opened;
  errand = opened.errands;
  history = opened.events;
}

-- a caller of it is new
opened-errand :
    (g : Geometry) (c : CoreFields) (caller : ℕ) → IsOpened g (opening g) c → caller < c.geometry.callers
    → errand_at c.errands caller ≡ open_errand caller c.geometry
opened-errand g c caller opened has =
    opened.errands caller (subst (λ (h : Geometry). caller < h.callers) opened.geometry has) ∙ ap (open_errand caller) (sym opened.geometry)

-- a new lane has begun nothing
new-passed :
    (passed : ℕ → ℕ → Type 0) (lane : LaneState Grip) → lane.outcomes.items ≡ [] → lane.work ≡ None → HasPassed passed lane
new-passed passed lane none between op lt =
    let zero_begun : begun_count lane.outcomes.items lane.work ≡ 0 =
    ap (λ (results : List Outcome). begun_count results lane.work) none ∙ ap (λ at. begun_count {B = Grip} [] at) between in
    absurd (omega (arith, lt, zero_begun))

-- new lanes stand on it, and have made no move
pub opened-run :
    (passed : ℕ → ℕ → Type 0) (trace : Trace) (c : CoreFields) (lanes : List (LaneState Grip)) → IsTrace trace
    → IsOpened trace.heap (opening trace.heap) c → IsCore c → AreNew trace.lanes lanes
    → HaveRunBefore passed trace (InOrder trace.orders (length trace.lanes)) c lanes
opened-run passed trace c lanes is opened core new = record {
  moves = [];
  ran = record {
    core = core;
    moved = record {
      heap = opened.geometry;
      opened = state_of c;
      opens = opened-opens trace.heap c opened;
      by_lanes = All-nil (λ move. mover_of move < length trace.lanes);
      drives = refl;
      counted = opened.steps;
      rest = λ caller least has. (subst IsIdle (sym (opened-errand trace.heap c caller opened has)) refl, ap (own caller) opened.events);
    };
    all = new.all;
    each = λ lane state lt there.
        let one = new.each lane state lt there in
        let has : state.caller < c.geometry.callers =
        omega (arith, one.caller_is, lt, new.all, at-least-one (length trace.lanes) trace.heap.callers is.callers, ap (λ (g : Geometry). g.callers) opened.geometry) in
        record {
          number = one.caller_is;
          stands =
              lane-new (machine_at c state.caller) (operations_in trace lane) state
              (subst (λ k. IsNew k (length (operations_in trace lane)) state) (sym one.caller_is) one)
              (opened-errand trace.heap c state.caller opened has) opened.events (core-served c state.caller core has);
          gone = new-passed passed state one.none one.between;
        };
  };
  order = λ rest none follows. follows;
}

-- no lane has begun
pub so-none :
    (trace : Trace) (first : CoreFields) → IsTrace trace → IsOpened trace.heap (opening trace.heap) first → IsCore first
    → IsDrivenSoFar trace trace.orders first
so-none trace first is opened core = record {
  geometry = opened.geometry;
  opened = state_of first;
  opens = opened-opens trace.heap first opened;
  moves = [];
  by_lanes = All-nil (λ move. mover_of move < length trace.lanes);
  drives = refl;
  counted = opened.steps;
  order = order-none trace.orders (length trace.lanes);
  on_way = λ lane lt. record {
    registers = empty;
    results = [];
    at = None;
    rule =
        let has : lane < trace.heap.callers = omega (arith, lt, at-least-one (length trace.lanes) trace.heap.callers is.callers) in
        lane-start trace.heap lane first.events (errand_at first.errands lane) (operations_in trace lane) (opened.errands lane has) opened.events
        (subst (λ g. IsServed g lane (errand_at first.errands lane) first.events) opened.geometry
        (core-served first lane core (subst (λ (g : Geometry). lane < g.callers) (sym opened.geometry) has)));
  };
}

-- lanes at their ends
module _ {passed : ℕ → ℕ → Type 0} {trace : Trace} {last : CoreFields} {lanes : List (LaneState Grip)} (is : IsTrace trace)
    (finish : HaveFinished passed trace (length trace.lanes) last lanes) where
  pub driven-so-far : IsDrivenSoFar trace trace.orders last
  driven-so-far =
      so-far finish.run
      (subst (λ left. OneByOne (length trace.lanes) left []) (let none : 0 ≡ length trace.lanes - length trace.lanes = omega arith in none) refl)

  abbrev moves : List Move
  moves = finish.run.moves

  abbrev ran : LanesRan passed trace last lanes finish.run.moves
  ran = finish.run.ran

  -- a lane at its end stands so
  record AtEnd (lane : ℕ) : Type 0 where
    state : LaneState Grip
    there : state ≡ get_or lanes lane state
    runs : IsRunning passed trace last moves lane state
    ended : HasEnded (operations_in trace lane) state

  at-end : (lane : ℕ) → lane < length trace.lanes → AtEnd lane
  at-end lane lt =
      let below : lane < length lanes = omega (arith, lt, ran.all) in
      let it = element_at lanes lane below in
      record { state = it.0; there = it.1; runs = ran.each lane it.0 below it.1; ended = (finish.ended lane lt).1 it.0 it.1 }

  results : List (List Outcome)
  results = map (λ (lane : LaneState Grip). lane.outcomes.items) lanes

  result-at : (lane : ℕ) (lt : lane < length trace.lanes) → (at-end lane lt).state.outcomes.items ≡ get_or results lane []
  unfolding results
  result-at lane lt =
      let e = at-end lane lt in
      let below : lane < length lanes = omega (arith, lt, ran.all) in
      ap (λ (s : LaneState Grip). s.outcomes.items) e.there
      ∙ sym (get_or-map (λ (lane : LaneState Grip). lane.outcomes.items) lanes lane e.state [] below)

  ended :
      (lane : ℕ) → lane < length trace.lanes
      → IsAtItsEnd trace.heap (get_or trace.lanes lane []) lane (state_of last) (get_or results lane []) (calls_of lane moves)
  ended lane lt =
      let e = at-end lane lt in
      let registers = registers_on last e.state in
      let ops = operations_in trace lane in
      let calls = calls_of lane moves in
      record {
        registers = registers;
        rule =
            subst (λ results. IsLane trace.heap lane last.events (errand_at last.errands lane) ops registers results None calls)
            (result-at lane lt)
            (subst (λ at. IsLane trace.heap lane last.events (errand_at last.errands lane) ops registers e.state.outcomes.items at calls)
            (ap (work_at (machine_at last e.state.caller)) e.ended.between) (stands-there trace.heap last ops lane e.state moves ran.moved.heap e.runs.number e.runs.stands));
      }

  scripts :
      (lane : ℕ) → lane < length trace.lanes
      → Scripts (replicate REGISTERS None) (get_or trace.lanes lane []) (get_or results lane []) (calls_of lane moves)
  scripts lane lt = lane-script (ended lane lt).rule

  idle : (caller : ℕ) → caller < trace.heap.callers → IsIdle (errand_at last.errands caller)
  idle caller has =
      elim (cases_lt caller (length trace.lanes)) [
        | inl lt ↦ (lane-resting (ended caller lt).rule refl).rests.idle
        | inr least ↦ (ran.moved.rest caller least (subst (λ (g : Geometry). caller < g.callers) (sym ran.moved.heap) has)).0
      ]

  lost-most : (caller : ℕ) → caller < last.geometry.callers → (errand_at last.errands caller).lost ≤ lost_by_all last
  unfolding callers_sum
  lost-most caller has = term-sum last.geometry.callers (λ caller. lost_of (errand_at last.errands caller)) caller has

  fits-at :
      (lane : ℕ) → lane < length trace.lanes
      → Fits (setting_in last.events lane trace.heap.turn_limit (lost_by_all last)) (get_or trace.lanes lane []) (get_or results lane [])
  fits-at lane lt =
      let has : lane < last.geometry.callers =
      omega (arith, lt, at-least-one (length trace.lanes) trace.heap.callers is.callers, ap (λ (g : Geometry). g.callers) ran.moved.heap) in
      lane-fits (ended lane lt).rule (lost_by_all last) refl (ap length (sym (result-at lane lt)) ∙ (at-end lane lt).ended.all) (lost-most lane has)

  pub driven : IsDriven trace trace.orders last (map (λ (lane : LaneState Grip). lane.outcomes.items) lanes)
  unfolding results driven-so-far so-far
  driven = record {
    so_far = driven-so-far;
    scripts = scripts;
    ended = ended;
    idle = idle;
    fit =
        plain-fit trace.heap last.events (lost_by_all last) trace.lanes results
        (length-map lanes (λ (lane : LaneState Grip). lane.outcomes.items) ∙ ran.all) fits-at
        (events-below last.geometry (length trace.lanes) last.events [] last.events (core-sound last ran.core).legal refl
        (λ k least has. (ran.moved.rest k least has).1));
  }

  pub all-passed : AllPassed passed trace.lanes
  all-passed =
      all-gone passed trace (λ lane lt.
      let e = at-end lane lt in
      let all : begun_count e.state.outcomes.items e.state.work ≡ length (operations_in trace lane) =
      ap (begun_count e.state.outcomes.items) e.ended.between ∙ omega (arith, e.ended.all) in
      subst (λ k. FirstPassed passed k (length (operations_in trace lane))) e.runs.number (subst (FirstPassed passed e.state.caller) all e.runs.gone))

-- a machine was driven by lanes with the outcomes that are told of them
map-twice : {A B C : Type 0} (f : B → C) (g : A → B) (xs : List A) → map f (map g xs) ≡ map (λ x. f (g x)) xs
map-twice f g [] = refl
map-twice f g (x ∷ xs) = ap (λ ys. f (g x) ∷ ys) (map-twice f g xs)

pub told-driven :
    (trace : Trace) (last : CoreFields) (lanes : List (LaneState Grip)) (result : Result (Vec (Vec Outcome Global) Global) AllocError)
    → IsDriven trace trace.orders last (map (λ (lane : LaneState Grip). lane.outcomes.items) lanes)
    → IfOk result (λ outcomes. outcomes.items ≡ map (λ (lane : LaneState Grip). lane.outcomes) lanes)
    → IfOk result (λ outcomes. IsDriven trace trace.orders last (map (λ lane. lane.items) outcomes.items))
told-driven trace last lanes (Ok outcomes) is same =
    subst (IsDriven trace trace.orders last)
    (sym (ap (map (λ (lane : Vec Outcome Global). lane.items)) same
    ∙ map-twice (λ (lane : Vec Outcome Global). lane.items) (λ (lane : LaneState Grip). lane.outcomes) lanes)) is
told-driven trace last lanes (Err e) is same = tt

-- the first lanes of a trace, so many, are new
pub record AreNewSo {B : Type 0} (lanes : List (List Op)) (count : ℕ) (states : List (LaneState B)) : Type 0 where
  pub all : length states ≡ min count (length lanes)
  pub each :
      (lane : ℕ) (state : LaneState B) → lane < length states → state ≡ get_or states lane state → IsNew lane (length (get_or lanes lane [])) state

pub new-none : {B : Type 0} (lanes : List (List Op)) (states : List (LaneState B)) → states ≡ [] → AreNewSo lanes 0 states
new-none lanes states none = record {
  all = ap length none ∙ omega arith;
  each = λ lane state lt there. absurd (let zero_long : length states ≡ 0 = ap length none in omega (arith, lt, zero_long));
}

pub new-more :
    {B : Type 0} (lanes : List (List Op)) (k : ℕ) (states more : List (LaneState B)) (state : LaneState B) → k < length lanes
    → AreNewSo lanes k states → IsNew k (length (get_or lanes k [])) state → more ≡ states ++ state ∷ [] → AreNewSo lanes (k + 1) more
new-more {B = B} lanes k states more state lt new one is =
    let Is : ℕ → LaneState B → Type 0 = λ n s. IsNew n (length (get_or lanes n [])) s in
    subst (AreNewSo lanes (k + 1)) (sym is)
    (record {
      all = omega (arith, new.all, lt, length-append states (state ∷ []));
      each = λ lane now below there.
          pushed Is states state lane now below there (subst (λ n. Is n state) (omega (arith, new.all, lt)) one) (λ early was. new.each lane now early was);
    })

pub lane-is :
    {X : Type 0} (f : X → List Op) (lanes : List X) (all : List (List Op)) (k : ℕ) (lane : X) → map f lanes ≡ all → k < length lanes
    → lane ≡ get_or lanes k lane → get_or all k [] ≡ f lane
lane-is f lanes all k lane is lt there =
    ap (λ xs. get_or xs k []) (sym is) ∙ get_or-map f lanes k lane [] lt ∙ ap f (sym there)
