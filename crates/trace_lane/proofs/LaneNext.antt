-- An advance of a lane, part after part.
use Rattle.std.proofs.Common.{ℕ, suc, true, false, ◌≡◌, ◌≢◌, ◌<◌, ◌+◌, ◌-◌, ◌^◌, ◌∷◌, List, [], Option, Some, None, length, min, drop, refl, sym, ap, ◌∙◌, subst, arith, get_or, drop-cons, below_more}
use Rattle.trace_lane.proofs.Common.{Geometry, IsBusy, Call, ErrandFields, Made, HasSeenMore, IsServed, Op, Caller, HasStepped, HeldBlock, Outcome, LaneState}
use Rattle.trace_lane.proofs.Common.{Work, StandsBy, Stepped, CoreFields, Grip, MovesCore, AdvancesOn, HasAdvanced, IsAtHand, DoingIn, FirstPassed, IsLaneOn}
use Rattle.trace_lane.proofs.Common.{IsLaneOf, machine_at, steps, errand_at, same-seen, begun_count, option_map, work_at}
use Rattle.step_machine.specs.Cores.{IsCore}
use Rattle.lane_engine.specs.Machines.{grip_need, grip_place}
use Rattle.step_machine.proofs.MomentLemmas.{core-served}
use Rattle.trace_lane.specs.Advances.{BeginsOperation, GoesOnBy, MayBeginOperation, MayGoOn}
use Rattle.trace_lane.specs.States.{StandsOn}
use Rattle.trace_lane.specs.Works.{work_held}
use Rattle.trace_lane.proofs.AdvanceLemmas.{advance-none, advance-then, calls-kept, part-begins, part-steps}
use Rattle.trace_lane.proofs.NeedLemmas.{here-below}

-- an operation that is under way counts as begun
pub count-under : {B : Type 0} (results : List Outcome) (at : Option (Work B)) → at ≢ None → begun_count results at ≡ length results + 1
count-under results None not = absurd (not refl)
count-under results (Some work) not = omega arith

-- a list from one of its elements on
pub next-op :
    (operations : List Op) (results : List Outcome) (k : ℕ) (d : Op) → length results ≡ k → k < length operations
    → IsAtHand operations results (get_or operations k d)
next-op operations results k d here below =
    (drop (suc k) operations, ap (λ n. drop n operations) here ∙ drop-cons operations k d below)

-- the first operations of a lane have passed the gate, with one more
pub passed-more :
    (passed : ℕ → ℕ → Type 0) (caller count : ℕ) → FirstPassed passed caller count → passed caller (min count (2 ^ 32 - 1))
    → FirstPassed passed caller (count + 1)
passed-more passed caller count before last = below_more (λ k. passed caller (min k (2 ^ 32 - 1))) count before last

-- an operation of the script is under way
pub record IsUnder (e : ErrandFields) (operations : List Op) : Type 0 where
  pub operation : Op
  pub rest : List Op
  pub next : operations ≡ operation ∷ rest
  pub busy : IsBusy e

-- a lane that is not between two operations
in-some :
    (before registers : List (Option HeldBlock)) (left : List Op) (at : Option (Work HeldBlock)) (present : List Made) (under : Option Call) → at ≢ None
    → DoingIn before registers left at present under → (operation : Op) × (rest : List Op) × (left ≡ operation ∷ rest) × (under ≢ None)
in-some before registers left None present under not doing = absurd (not refl)
in-some before registers left (Some work) present under not (o, rest, next, doing, is) = (o, rest, next, λ none. cc)

by-busy : (g : Geometry) (caller : ℕ) (made : List Made) (under : Option Call) (now : Caller) → under ≢ None → StandsBy g caller made under now → IsBusy now.errand
by-busy g caller made None now some stands = absurd (some refl)
by-busy g caller made (Some call) now some (last, leads, rests, owned, is) = is.busy

held-some : (at : Option (Work Grip)) → at ≢ None → option_map (work_held grip_place grip_need) at ≢ None
held-some None not = absurd (not refl)
held-some (Some work) not = λ is. cc

lane-under :
    (c : CoreFields) (operations : List Op) (lane : LaneState Grip) (calls : List Call) → IsLaneOn c operations lane calls → lane.work ≢ None
    → IsUnder (errand_at c.errands lane.caller) (drop (length lane.outcomes.items) operations)
lane-under c operations lane calls stands not =
    let l = stands.stands in
    let so = in-some _ _ (drop (length lane.outcomes.items) operations) (work_at (machine_at c lane.caller) lane.work) l.making.present l.under (held-some lane.work not) l.making.doing in
    record {
      operation = so.0;
      rest = so.1;
      next = so.2;
      busy =
          by-busy c.geometry lane.caller l.made l.under (record { errand = errand_at c.errands lane.caller; seen = l.sight }) so.3 l.stands;
    }

-- a lane stands on a machine that its calls and steps have made of another one
stands-after :
    (c after : CoreFields) (operations : List Op) (lane new : LaneState Grip) → StandsOn c operations lane → IsCore after
    → after.geometry ≡ c.geometry → new.caller ≡ lane.caller → (calls : List Call)
    → IsLaneOf (machine_at after lane.caller) operations new calls → StandsOn after operations new
stands-after c after operations lane new on core heap same calls stands =
    record {
      core = core;
      has = subst (λ k. k < after.geometry.callers) (sym same) (subst (λ (g : Geometry). lane.caller < g.callers) (sym heap) on.has);
      calls = calls;
      stands = subst (λ k. IsLaneOf (machine_at after k) operations new calls) (sym same) stands;
    }

-- a lane between two operations begins the next one
pub before-next :
    (c : CoreFields) (operations : List Op) (lane : LaneState Grip) (operation : Op) → StandsOn c operations lane → lane.work ≡ None
    → IsAtHand operations lane.outcomes.items operation → (calls : List Call) → IsLaneOn c operations lane calls
    → MayBeginOperation operation c operations calls lane
before-next c operations lane operation on between next calls stands =
    record { next = next; between = between; stands = stands; served = core-served c lane.caller on.core on.has }

-- a lane with as many outcomes, between two operations, may begin the operation at this place
pub next-ready :
    (c : CoreFields) (operations : List Op) (lane : LaneState Grip) (k : ℕ) (d : Op) (on : StandsOn c operations lane) → lane.work ≡ None
    → length lane.outcomes.items ≡ k → k < length operations → MayBeginOperation (get_or operations k d) c operations on.calls lane
next-ready c operations lane k d on between here below =
    before-next c operations lane (get_or operations k d) on between (next-op operations lane.outcomes.items k d here below) on.calls on.stands

-- the gate was told of the operation's number
pub gate-number :
    (passed : ℕ → ℕ → Type 0) (mid caller number op count : ℕ) → mid ≡ caller → number ≡ min op (2 ^ 32 - 1) → count ≡ op → passed mid number
    → passed caller (min count (2 ^ 32 - 1))
gate-number passed mid caller number op count same is here told =
    subst (λ k. passed k (min count (2 ^ 32 - 1))) same
    (subst (passed mid) (is ∙ ap (λ n. min n (2 ^ 32 - 1)) (sym here)) told)

-- a machine's step of the lane's caller, and what it told
pub record HasMade (t u : CoreFields) (lane : LaneState Grip) (told : Stepped Grip) : Type 0 where
  pub rule : IsCore u
  pub geometry : u.geometry ≡ t.geometry
  pub busy :
      IsBusy (errand_at t.errands lane.caller)
      → HasStepped grip_place grip_need (errand_at t.errands lane.caller) (errand_at u.errands lane.caller) t.events u.events told
  pub moves : IsBusy (errand_at t.errands lane.caller) → MovesCore t (steps lane.caller) u
  pub others :
      (other : ℕ) → other ≢ lane.caller
      → (errand_at u.errands other ≡ errand_at t.errands other) × HasSeenMore other t.events u.events

-- a lane has gone on without a move, and nothing has begun
pub onward-none :
    {passed : ℕ → ℕ → Type 0} {operations : List Op} {c : CoreFields} {lane : LaneState Grip} → StandsOn c operations lane
    → AdvancesOn passed operations c c lane lane false
onward-none {operations = operations} {c = c} {lane = lane} stands = record {
  geometry = refl;
  caller = refl;
  stands = stands;
  others = λ other ne. (refl, same-seen other c.events c.events refl);
  advanced = advance-none c lane.caller operations lane;
  gate = λ h. h;
}

module _ {passed : ℕ → ℕ → Type 0} {operations : List Op} {s t : CoreFields} {lane mid : LaneState Grip} (so : AdvancesOn passed operations s t lane mid false) where
  -- a lane has gone on without a step, and one more operation has begun
  onward-more :
      {u : CoreFields} {after : LaneState Grip} {operation : Op} → IsCore u
      → MayBeginOperation operation t operations so.stands.calls mid → BeginsOperation operation t u mid after → passed lane.caller (min (length mid.outcomes.items) (2 ^ 32 - 1))
      → AdvancesOn passed operations s u lane after false
  onward-more {u = u} {after = after} {operation = operation} core before goes last =
      let k : mid.caller ≡ lane.caller = so.caller in
      let calls = so.stands.calls in
      let gone = goes.gone_on [] (errand_at t.errands mid.caller) operations calls before in
      let kept = calls-kept mid.caller goes.begun t u goes.called in
      record {
        geometry = kept.geometry ∙ so.geometry;
        caller = goes.same_caller ∙ k;
        stands = stands-after t u operations mid after so.stands core kept.geometry goes.same_caller _ gone.stands;
        others = λ other ne.
            let stood = so.others other ne in
            (kept.others other (λ is. ne (is ∙ k)) ∙ stood.0, subst (HasSeenMore other s.events) (sym kept.no_event) stood.1);
        advanced =
            advance-then s t u lane.caller operations lane mid after false so.advanced
            (subst (λ c. HasAdvanced t u c operations mid after false) k
            (part-begins t u mid after _ goes before.between [] (errand_at t.errands mid.caller) operations calls before
            (λ cs on. before-next t operations mid operation so.stands before.between before.next cs on)));
        gate = λ first.
            let here : begun_count mid.outcomes.items mid.work ≡ length mid.outcomes.items =
            ap (λ a. begun_count mid.outcomes.items a) before.between ∙ omega arith in
            subst (FirstPassed passed lane.caller) (sym gone.count)
            (passed-more passed lane.caller (length mid.outcomes.items) (subst (FirstPassed passed lane.caller) here (so.gate first)) last);
      }

  -- the operation at this place: what is so when it has begun
  pub record HasNext (u : CoreFields) (after : LaneState Grip) : Type 0 where
    pub advanced : AdvancesOn passed operations s u lane after false
    pub no_event : u.events ≡ t.events
    pub count : begun_count after.outcomes.items after.work ≡ length mid.outcomes.items + 1

  pub onward-next :
      {u : CoreFields} {after : LaneState Grip} (k number : ℕ) (d : Op) → IsCore u → mid.work ≡ None → length mid.outcomes.items ≡ k
      → k < length operations → BeginsOperation (get_or operations k d) t u mid after → number ≡ min k (2 ^ 32 - 1) → passed mid.caller number → HasNext u after
  onward-next {u = u} k number d core between here below goes number_is told =
      let ready = next-ready t operations mid k d so.stands between here below in
      record {
        advanced =
            onward-more core ready goes
            (gate-number passed mid.caller lane.caller number k (length mid.outcomes.items) so.caller number_is here told);
        no_event = (calls-kept mid.caller goes.begun t u goes.called).no_event;
        count = (goes.gone_on [] (errand_at t.errands mid.caller) operations so.stands.calls ready).count;
      }

  -- a step of the operation that is under way may be answered
  pub step-told :
      {u : CoreFields} {told : Stepped Grip} (k : ℕ) (d : Op) → mid.work ≢ None → HasMade t u mid told → length mid.outcomes.items ≡ k → (calls : List Call) → IsLaneOn t operations mid calls
      → MayGoOn (get_or operations k d) told u t.events (errand_at t.errands mid.caller) operations calls mid
  step-told {u = u} k d not made here calls stands =
      let on = so.stands in
      let under = lane-under t operations mid calls stands not in
      let below = here-below operations under.rest mid.outcomes.items under.operation under.next in
      record {
        next = next-op operations mid.outcomes.items k d here (subst (λ n. n < length operations) here below);
        stood = subst (λ g. IsLaneOf (record (machine_at t mid.caller) { geometry = g }) operations mid calls) (sym made.geometry) stands;
        stepped = made.busy under.busy;
        served =
            subst (λ g. IsServed g mid.caller (errand_at t.errands mid.caller) t.events) (sym made.geometry)
            (core-served t mid.caller on.core on.has);
        still_served = core-served u mid.caller made.rule (subst (λ (g : Geometry). mid.caller < g.callers) (sym made.geometry) on.has);
      }

  -- a lane has gone on by a step, which is answered
  pub onward-steps :
      {u v : CoreFields} {after : LaneState Grip} {told : Stepped Grip} (k : ℕ) (d : Op) → t.events ≡ s.events → mid.work ≢ None → HasMade t u mid told
      → length mid.outcomes.items ≡ k → GoesOnBy (get_or operations k d) told u v mid after → IsCore v
      → AdvancesOn passed operations s v lane after true
  onward-steps {u = u} {v = v} {after = after} k d same not made here goes core =
      let calls = so.stands.calls in
      let ready = step-told k d not made here calls so.stands.stands in
      let same_caller : mid.caller ≡ lane.caller = so.caller in
      let step = made.moves (lane-under t operations mid calls so.stands.stands not).busy in
      let gone = goes.gone_on t.events (errand_at t.errands mid.caller) operations calls ready in
      let kept = calls-kept mid.caller goes.begun u v goes.called in
      record {
        geometry = kept.geometry ∙ step.heap ∙ so.geometry;
        caller = goes.same_caller ∙ same_caller;
        stands = stands-after t v operations mid after so.stands core (kept.geometry ∙ step.heap) goes.same_caller _ gone.stands;
        others = λ other ne.
            let mine : other ≢ mid.caller = λ is. ne (is ∙ same_caller) in
            let stepped = made.others other mine in (
              kept.others other mine ∙ stepped.0 ∙ (so.others other ne).0,
              subst (λ b. HasSeenMore other b v.events) same (subst (HasSeenMore other t.events) (sym kept.no_event) stepped.1),
            );
        advanced =
            advance-then s t v lane.caller operations lane mid after true so.advanced
            (subst (λ c. HasAdvanced t v c operations mid after true) same_caller
            (part-steps u v mid after t _ step goes operations calls ready (λ cs on. step-told k d not made here cs on)));
        gate = λ first.
            let count : begun_count mid.outcomes.items mid.work ≡ length mid.outcomes.items + 1 =
            count-under mid.outcomes.items mid.work not in
            subst (FirstPassed passed lane.caller) (count ∙ sym gone.count) (so.gate first);
      }

-- a lane that is between two operations again has one outcome more
pub begun-more :
    (before after : List Outcome) (at : Option (Work Grip)) (op : ℕ) → at ≡ None → begun_count after at ≡ length before + 1 → length before ≡ op
    → length after ≡ op + 1
begun-more before after at op between count here =
    let now : begun_count {B = Grip} after None ≡ length before + 1 = ap (λ a. begun_count after a) (sym between) ∙ count in omega arith
