-- One lane of a trace makes steps, and the others stand still.
use Rattle.std.proofs.Common.{ℕ, zero, suc, ◌≡◌, ◌≢◌, ◌<◌, ◌+◌, ◌-◌, ◌^◌, ◌==◌, Bool, true, false, cond, if◌then◌else◌, Option, Some, None, List, [], ◌∷◌, ◌++◌, length, min, get_or, set, refl, sym, ap, ◌∙◌, subst, inl, inr, arith, append_assoc}
use Rattle.std.specs.Prelude.{All, Contains, count_by, replicate}
use Rattle.std.proofs.lemmas.List.{append-nil, get_or-set_same, get_or-set_other, length-set, replicate-append-replicate}
use Rattle.std.proofs.lemmas.List.Elements.{All-contains, All-head, All-push, All-replicate, All-tail}
use Rattle.std.proofs.lemmas.Bool.{cases_eq, ne_eqb}
use Rattle.heap_geometry.specs.declared.geometry.Geometry.{Geometry}
use Rattle.pool_model.specs.declared.event.Event.{Event}
use Rattle.pool_model.specs.Histories.{caller_of, own}
use Rattle.pool_model.proofs.HistoryLemmas.{own-append}
use Rattle.errand_steps.specs.Steps.{State, event_at, found_at, with_event}
use Rattle.errand_steps.proofs.EventLemmas.{event_own}
use Rattle.lane_engine.specs.Machines.{MovesCore}
use Rattle.trace_text.specs.declared.trace.Op.{Op}
use Rattle.trace_text.specs.declared.trace.Trace.{Trace}
use Rattle.errand_steps.specs.Begins.{IsIdle}
use Rattle.errand_steps.specs.Calls.{Call}
use Rattle.sound_laws.proofs.bounds_lemmas.CountLemmas.{count-append}
use Rattle.sound_state.specs.Moves.{is_step}
use Rattle.sound_state.specs.Runs.{Move, Moved, begins, steps}
use Rattle.step_machine.specs.Cores.{CoreFields, errand_at, made_with, state_of}
use Rattle.step_machine.specs.Moments.{HasSeenMore}
use Rattle.step_machine.proofs.MomentLemmas.{same-seen}
use Rattle.lane_engine.specs.declared.grip.Grip.{Grip}
use Rattle.lane_outcomes.specs.declared.registers.HeldBlock.{HeldBlock}
use Rattle.trace_lane.specs.declared.lane.LaneState.{LaneState}
use Rattle.trace_lane.specs.Begun.{calls_of}
use Rattle.lane_runner.specs.Driven.{Drives, IsOnItsWay, OthersAreOnTheirWay, mover_of, steppers_of}
use Rattle.trace_lane.specs.Paths.{IsBy, MovesLead}
use Rattle.lane_runner.specs.Running.{HasEnded, HasEndedIn, HasRun, IsRunning, LanesMoved, LanesRan, operations_in}
use Rattle.trace_lane.specs.Lanes.{IsLane}
use Rattle.trace_lane.specs.States.{IsLaneOf, IsLaneOn, registers_at, work_at}
use Rattle.lane_engine.specs.Engines.{machine_at}
use Rattle.trace_lane.proofs.EndedLemmas.{lane_of-beside}
use Rattle.trace_lane.proofs.AdvanceLemmas.{calls-append, steps-append}
use Rattle.lane_runner.proofs.RunLemmas.{steppers-append}

-- what is so of a new element in its place, and of the others in theirs, is so of each
pub placed :
    {A : Type 0} (P : ℕ → A → Type 0) (xs : List A) (place : ℕ) (new : A) (at : ℕ) (x : A) → place < length xs → x ≡ get_or (set xs place new) at x
    → P place new → (at ≢ place → x ≡ get_or xs at x → P at x) → P at x
placed P xs place new at x lt is here others =
    elim (cases_eq at place) [
      | inl same ↦
          let e : x ≡ new = is ∙ ap (λ k. get_or (set xs place new) k x) same ∙ get_or-set_same xs place new x lt in
          subst (λ k. P k x) (sym same) (subst (P place) (sym e) here)
      | inr ne ↦ others ne (is ∙ get_or-set_other xs place at new x ne)
    ]

-- the steps of one caller name no other caller
contains-replicate : (n lane other : ℕ) → Contains (replicate n lane) other → other ≡ lane
contains-replicate n lane other is = All-contains (λ y. y ≡ lane) (replicate n lane) other (All-replicate (λ y. y ≡ lane) n lane refl) is

pub contains-none : (other : ℕ) → ¬ Contains [] other
contains-none other is = omega (arith, is.1)

stepper-more :
    (lane caller n : ℕ) (rest : List ℕ) → caller ≡ lane → rest ≡ replicate n lane → caller ∷ rest ≡ replicate (1 + n) lane
stepper-more lane caller n rest same is = ap (λ k. k ∷ rest) same ∙ ap (λ xs. lane ∷ xs) is ∙ replicate-append-replicate 1 n lane

-- moves of one caller: its steps
steppers-by : (lane : ℕ) (moves : List Move) → All (IsBy lane) moves → steppers_of moves ≡ replicate (count_by is_step moves) lane
steppers-by lane [] by = refl
steppers-by lane (begins caller call ∷ moves) by = steppers-by lane moves (All-tail (IsBy lane) (begins caller call) moves by)
steppers-by lane (steps caller ∷ moves) by =
    let same : caller ≡ lane = All-head (IsBy lane) (steps caller) moves by in
    let rest = steppers-by lane moves (All-tail (IsBy lane) (steps caller) moves by) in
    stepper-more lane caller (count_by is_step moves) (steppers_of moves) same rest
    ∙ ap (λ n. replicate n lane) (sym (count-append is_step (steps caller ∷ []) moves))

by-mover : (mover : ℕ) (move : Move) → IsBy mover move → mover_of move ≡ mover
by-mover mover (begins caller call) is = is
by-mover mover (steps caller) is = is

-- an event of another caller is none of the lane's
own-not : (lane : ℕ) (e : Event) → caller_of e ≢ lane → own lane (e ∷ []) ≡ []
own-not lane e ne = ap (λ b. if b then e ∷ [] else []) (ne_eqb (caller_of e) lane ne)

other-told :
    (lane : ℕ) (events : List Event) (o : Option Event) → ((e : Event) → o ≡ Some e → caller_of e ≢ lane)
    → HasSeenMore lane events (with_event events o)
other-told lane events None others = same-seen lane events events refl
other-told lane events (Some e) others = record { more = e ∷ []; seen = refl; not_own = own-not lane e (others e refl) }

-- nor is a call of another one of its calls
calls-cond : (b : Bool) (call : Call) → b ≡ false → cond b (call ∷ []) [] ≡ []
calls-cond true call is = cc
calls-cond false call is = refl

other-calls : (lane : ℕ) (move : Move) → lane ≢ mover_of move → calls_of lane (move ∷ []) ≡ []
other-calls lane (begins caller call) ne = calls-cond (caller == lane) call (ne_eqb caller lane (λ is. ne (sym is)))
other-calls lane (steps caller) ne = refl

-- a list has an element at each place
pub element_at : {A : Type 0} (xs : List A) (k : ℕ) → k < length xs → (x : A) × (x ≡ get_or xs k x)
element_at [] k lt = absurd (omega (arith, lt))
element_at (x ∷ xs) zero lt = (x, refl)
element_at (x ∷ xs) (suc k) lt = element_at xs k (omega (arith, lt))

-- a move of another leaves a lane its errand, and adds no event of the lane's
other-move :
    (c after : CoreFields) (lane : ℕ) (move : Move) → lane ≢ mover_of move → MovesCore c move after
    → (errand_at after.errands lane ≡ errand_at c.errands lane) × HasSeenMore lane c.events after.events
other-move c after lane (begins caller call) ne moved =
    let same = ap (λ (s : State). s.errand lane) moved.moved.1.after ∙ moved.moved.1.moves.elsewhere lane ne in
    let seen : after.events ≡ c.events = ap (λ (s : State). s.history) moved.moved.1.after in
    (same, subst (HasSeenMore lane c.events) (sym seen) (same-seen lane c.events c.events refl))
other-move c after lane (steps caller) ne moved = (
  moved.moved.1.errand.elsewhere lane ne,
  subst (HasSeenMore lane c.events) (sym moved.moved.1.history)
      (other-told lane c.events (event_at (state_of c) caller)
      (λ e is. λ mine. ne (sym mine ∙ event_own caller (errand_at c.errands caller).point (found_at (state_of c) caller) e is))),
)

-- so a lane that stands still stands as it stood
stays-on :
    (c after : CoreFields) (operations : List Op) (state : LaneState Grip) (earlier : List Move) (move : Move) → state.caller ≢ mover_of move
    → MovesCore c move after → IsLaneOn c operations state (calls_of state.caller earlier)
    → IsLaneOn after operations state (calls_of state.caller (earlier ++ move ∷ []))
stays-on c after operations state earlier move ne moved stands =
    let lane = state.caller in
    let calls = calls_of lane earlier in
    let saw = other-move c after lane move ne moved in
    let same : calls ≡ calls_of lane (earlier ++ move ∷ []) =
    sym (calls-append lane earlier (move ∷ []) ∙ ap (λ xs. calls ++ xs) (other-calls lane move ne) ∙ append-nil calls) in
    let there = subst (λ g. IsLaneOf (record (machine_at c lane) { geometry = g }) operations state calls) (sym moved.heap) stands in
    let here =
    subst (λ e. IsLaneOf (record (machine_at after lane) { events = c.events; errand = e }) operations state calls) (sym saw.0) there in
    subst (IsLaneOn after operations state) same
    (lane_of-beside (record (machine_at after lane) { events = c.events }) after.events operations state calls here saw.1)

-- what a lane's registers hold
abbrev pub registers_on : CoreFields → LaneState Grip → List (Option HeldBlock)
registers_on c lane = registers_at (machine_at c lane.caller) lane.registers.items

-- a lane that stands on the machine of a trace stands by its rule there, and is on its way
pub stands-there :
    (g : Geometry) (c : CoreFields) (operations : List Op) (lane : ℕ) (state : LaneState Grip) (moves : List Move) → c.geometry ≡ g
    → state.caller ≡ lane → IsLaneOn c operations state (calls_of state.caller moves)
    → IsLane g lane c.events (errand_at c.errands lane) operations (registers_on c state) state.outcomes.items (work_at (machine_at c state.caller) state.work) (calls_of lane moves)
stands-there g c operations lane state moves heap number stands =
    let held = registers_on c state in
    let at = work_at (machine_at c state.caller) state.work in
    subst (λ k. IsLane g k c.events (errand_at c.errands k) operations held state.outcomes.items at (calls_of k moves)) number
    (subst (λ h. IsLane h state.caller c.events (errand_at c.errands state.caller) operations held state.outcomes.items at (calls_of state.caller moves)) heap
    stands.stands)

pub on-way :
    (passed : ℕ → ℕ → Type 0) (trace : Trace) (c : CoreFields) (moves : List Move) (lane : ℕ) (state : LaneState Grip) → c.geometry ≡ trace.heap
    → IsRunning passed trace c moves lane state → IsOnItsWay trace.heap (operations_in trace lane) lane (state_of c) (calls_of lane moves)
on-way passed trace c moves lane state heap runs = record {
  registers = registers_on c state;
  results = state.outcomes.items;
  at = work_at (machine_at c state.caller) state.work;
  rule = stands-there trace.heap c (operations_in trace lane) lane state moves heap runs.number runs.stands;
}

-- one move more drives a machine on, and is counted
drives-more :
    (g : Geometry) (lanes : List (List Op)) (earlier moves : List Move) (s t u : State) (move : Move) → Drives g lanes earlier s moves t → Moved g t move u
    → OthersAreOnTheirWay g lanes (earlier ++ moves) t move → Drives g lanes earlier s (moves ++ move ∷ []) u
drives-more g lanes earlier [] s t u move h moved others = (
  u,
  subst (λ x. Moved g x move u) h moved,
  subst (λ x. OthersAreOnTheirWay g lanes earlier x move) h
      (subst (λ ms. OthersAreOnTheirWay g lanes ms t move) (append-nil earlier) others),
  refl,
)
drives-more g lanes earlier (m ∷ moves) s t u move h moved others = (
  h.0,
  h.1,
  h.2,
  drives-more g lanes (earlier ++ m ∷ []) moves h.0 t u move h.3 moved
      (subst (λ ms. OthersAreOnTheirWay g lanes ms t move) (sym (append_assoc earlier (m ∷ []) moves)) others),
)

counted-more :
    (c after : CoreFields) (earlier : List Move) (move : Move) → c.steps ≡ min (count_by is_step earlier) (2 ^ 64 - 1)
    → after.steps ≡ made_with c.steps move → after.steps ≡ min (count_by is_step (earlier ++ move ∷ [])) (2 ^ 64 - 1)
counted-more c after earlier (begins caller call) was now = omega (arith, was, now, steps-append earlier (begins caller call ∷ []))
counted-more c after earlier (steps caller) was now = omega (arith, was, now, steps-append earlier (steps caller ∷ []))

-- moves of one lane, beside the others
module _ (passed : ℕ → ℕ → Type 0) (trace : Trace) (lanes : List (LaneState Grip)) (all : length lanes ≡ length trace.lanes) (mover : ℕ) (lt : mover < length lanes) where
  abbrev Others : CoreFields → List Move → Type 0
  Others c moves =
      (lane : ℕ) (state : LaneState Grip) → lane < length lanes → lane ≢ mover → state ≡ get_or lanes lane state
      → IsRunning passed trace c moves lane state

  beside-one :
      (c after : CoreFields) (earlier : List Move) (move : Move) → mover_of move ≡ mover → MovesCore c move after
      → LanesMoved trace c earlier × Others c earlier → LanesMoved trace after (earlier ++ move ∷ []) × Others after (earlier ++ move ∷ [])
  beside-one c after earlier move by moved (m, others) = (
    record {
      heap = moved.heap ∙ m.heap;
      opened = m.opened;
      opens = m.opens;
      by_lanes = All-push (λ move. mover_of move < length trace.lanes) earlier move m.by_lanes (omega (arith, by, lt, all));
      drives =
          drives-more trace.heap trace.lanes [] earlier m.opened (state_of c) (state_of after) move m.drives
          (subst (λ g. Moved g (state_of c) move (state_of after)) m.heap moved.moved)
          (λ lane has ne.
          let below : lane < length lanes = omega (arith, has, all) in
          let it = element_at lanes lane below in
          on-way passed trace c earlier lane it.0 m.heap (others lane it.0 below (λ is. ne (is ∙ sym by)) it.1));
      counted = counted-more c after earlier move m.counted moved.counted;
      rest = λ caller least has.
          let was = m.rest caller least (subst (λ (g : Geometry). caller < g.callers) moved.heap has) in
          let saw = other-move c after caller move (λ is. omega (arith, is, by, lt, all, least)) moved in (
            subst IsIdle (sym saw.0) was.0,
            ap (own caller) saw.1.seen ∙ own-append caller c.events saw.1.more ∙ ap (λ xs. xs ++ own caller saw.1.more) was.1 ∙ saw.1.not_own,
          );
    },
    λ lane state below ne there.
        let was = others lane state below ne there in
        record {
          number = was.number;
          stands = stays-on c after (operations_in trace lane) state earlier move (λ is. ne (sym was.number ∙ is ∙ by)) moved was.stands;
          gone = was.gone;
        },
  )

  beside :
      (moves : List Move) (c after : CoreFields) (earlier : List Move) → All (IsBy mover) moves → MovesLead c moves after
      → LanesMoved trace c earlier × Others c earlier → LanesMoved trace after (earlier ++ moves) × Others after (earlier ++ moves)
  beside [] c after earlier by leads so =
      subst (λ ms. LanesMoved trace after ms × Others after ms) (sym (append-nil earlier)) (subst (λ d. LanesMoved trace d earlier × Others d earlier) (sym leads) so)
  beside (move ∷ moves) c after earlier by leads so =
      subst (λ ms. LanesMoved trace after ms × Others after ms) (append_assoc earlier (move ∷ []) moves)
      (beside moves leads.0 after (earlier ++ move ∷ []) (All-tail (IsBy mover) move moves by) leads.2
      (beside-one c leads.0 earlier move (by-mover mover move (All-head (IsBy mover) move moves by)) leads.1 so))

-- one lane ran
module _ {passed : ℕ → ℕ → Type 0} {trace : Trace} {c after : CoreFields} {lanes : List (LaneState Grip)} {moves : List Move} {made : ℕ} {old new : LaneState Grip} (lane : ℕ) (ran : LanesRan passed trace c lanes moves) (lt : lane < length lanes) (is : old ≡ get_or lanes lane old) (run : HasRun passed c after (operations_in trace lane) old new made) where
  mine : IsRunning passed trace c moves lane old
  mine = ran.each lane old lt is

  by : All (IsBy lane) run.moves
  by = subst (λ k. All (IsBy k) run.moves) mine.number run.by_caller

  pub only : steppers_of (moves ++ run.moves) ≡ steppers_of moves ++ replicate made lane
  only =
      steppers-append moves run.moves ∙ ap (λ xs. steppers_of moves ++ xs) (steppers-by lane run.moves by ∙ ap (λ n. replicate n lane) run.counts)

  pub one-ran : LanesRan passed trace after (set lanes lane new) (moves ++ run.moves)
  one-ran =
      let so =
      beside passed trace lanes ran.all lane lt run.moves c after moves by run.leads
      (ran.moved, λ at state below ne there. ran.each at state below there) in
      let here : IsRunning passed trace after (moves ++ run.moves) lane new = record {
        number = run.caller ∙ mine.number;
        stands =
            subst (IsLaneOn after (operations_in trace lane) new)
            (sym (calls-append old.caller moves run.moves) ∙ ap (λ k. calls_of k (moves ++ run.moves)) (sym run.caller))
            (run.calls (calls_of old.caller moves) mine.stands);
        gone = run.gate mine.gone;
      } in
      record {
        core = run.stands.core;
        moved = so.0;
        all = length-set lanes lane new ∙ ran.all;
        each = λ at state below there.
            placed (IsRunning passed trace after (moves ++ run.moves)) lanes lane new at state lt there here
            (λ ne was. so.1 at state (omega (arith, below, length-set lanes lane new)) ne was);
      }

  -- a lane that has ended makes no step, and stays so
  pub ended-at : HasEnded (operations_in trace lane) new → HasEndedIn trace (set lanes lane new) lane
  ended-at ended = (
    omega (arith, lt, length-set lanes lane new),
    λ state there. placed (λ k s. k ≡ lane → HasEnded (operations_in trace k) s) lanes lane new lane state lt there (λ same. ended) (λ ne was same. absurd (ne same)) refl,
  )

  pub still : (at : ℕ) → HasEndedIn trace lanes at → (¬ Contains (replicate made lane) at) × HasEndedIn trace (set lanes lane new) at
  still at ended =
      elim (cases_eq at lane) [
        | inl same ↦
            let none = run.still (subst (λ k. HasEnded (operations_in trace k) old) same (ended.1 old (subst (λ k. old ≡ get_or lanes k old) (sym same) is))) in (
              λ there. contains-none at (subst (λ n. Contains (replicate n lane) at) none.0 there),
              subst (HasEndedIn trace (set lanes lane new)) (sym same) (ended-at none.1),
            )
        | inr ne ↦ (
          λ there. ne (contains-replicate made lane at there),
          (
            omega (arith, ended.0, length-set lanes lane new),
            λ state there.
                placed (λ k s. k ≢ lane → HasEnded (operations_in trace k) s) lanes lane new at state lt there (λ differ. absurd (differ refl))
                (λ differ was also. ended.1 state was) ne,
          ),
        )
      ]
