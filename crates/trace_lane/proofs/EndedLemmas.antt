-- A lane before its first operation, one beside others, and one that has all outcomes.
use Rattle.std.proofs.Common.{ℕ, ◌≡◌, ◌++◌, List, [], Option, Some, None, length, refl, sym, ap, ◌∙◌, subst, arith, append_assoc, append-nil}
use Rattle.trace_lane.proofs.Common.{Geometry, Event, IsIdle, Call, LeadsBy, Made, HasSeenMore, IsServed, REGISTERS, Op, Caller, IsAtRest, IsCall, HeldBlock, Outcome}
use Rattle.trace_lane.proofs.Common.{LaneState, Work, AllMadeFor, IsMaking, IsLane, StandsBy, ErrandFields, Engine, Scripts, IsLaneOf, length-replicate}
use Rattle.trace_lane.proofs.Common.{new_caller, own, own-append, same-seen, calls_in, calls_made, registers_from, registers_at, work_at}
use Rattle.errand_steps.specs.Errands.{open_errand}
use Rattle.trace_lane.specs.States.{IsNew}
use Rattle.trace_lane.proofs.CallerLemmas.{Owns, leads-first}
use Rattle.trace_lane.proofs.MakingLemmas.{empty, making-between}
use Rattle.trace_lane.proofs.OwnLemmas.{blocks-none, empty-holds}
use Rattle.trace_lane.proofs.ScriptLemmas.{caller-script}

-- a lane has made nothing before its first operation
pub making-none : (operations : List Op) → IsMaking operations empty [] None [] None
making-none operations =
    record { within = omega arith; past = []; present = []; all = refl; ended = refl; doing = (refl, refl, refl) }

-- a lane stands before its first operation, where nothing has happened
pub lane-start :
    (g : Geometry) (caller : ℕ) (events : List Event) (e : ErrandFields) (operations : List Op) → e ≡ open_errand caller g → events ≡ []
    → IsServed g caller e events → IsLane g caller events e operations empty [] None []
lane-start g caller events e operations opened none served =
    let first_served : IsServed g caller (open_errand caller g) [] =
    subst (λ h. IsServed g caller (open_errand caller g) h) none (subst (λ f. IsServed g caller f events) opened served) in
    record {
      made = [];
      under = None;
      making = making-none operations;
      begun = refl;
      sight = [];
      stands = (
        ap (λ (f : ErrandFields). let c : Caller = record { errand = f; seen = [] } in c) opened,
        record {
          served = subst (λ f. IsServed g f.caller f []) (sym opened) first_served;
          idle = subst IsIdle (sym opened) refl;
        },
      );
      more = same-seen caller [] events none;
    }

pub lane-new :
    {B : Type 0} (engine : Engine B) (operations : List Op) (lane : LaneState B) → IsNew lane.caller (length operations) lane
    → engine.errand ≡ open_errand lane.caller engine.geometry → engine.events ≡ [] → IsServed engine.geometry lane.caller engine.errand engine.events
    → IsLaneOf engine operations lane []
lane-new {B = B} engine operations lane new opened none served =
    let held = registers_at engine lane.registers.items in
    let is_empty : held ≡ empty = ap (registers_at engine) new.empty ∙ blocks-none engine.place_of engine.need_of REGISTERS in
    let g = engine.geometry in
    let stands = lane-start g lane.caller engine.events engine.errand operations opened none served in
    record {
      stands =
          subst (λ rs. IsLane g lane.caller engine.events engine.errand operations rs lane.outcomes.items (work_at engine lane.work) []) (sym is_empty)
          (subst (λ os. IsLane g lane.caller engine.events engine.errand operations empty os (work_at engine lane.work) []) (sym new.none)
          (subst (λ at. IsLane g lane.caller engine.events engine.errand operations empty [] (work_at engine at) []) (sym new.between) stands));
      size = ap length new.empty ∙ length-replicate {A = Option B} REGISTERS None;
      room = new.room;
    }

-- more and more events are seen
pub seen-then : (caller : ℕ) (a b c : List Event) → HasSeenMore caller a b → HasSeenMore caller b c → HasSeenMore caller a c
seen-then caller a b c h k = record {
  more = h.more ++ k.more;
  seen = k.seen ∙ ap (λ xs. xs ++ k.more) h.seen ∙ append_assoc a h.more k.more;
  not_own = own-append caller h.more k.more ∙ ap (λ xs. xs ++ own caller k.more) h.not_own ∙ k.not_own;
}

-- a lane stands as it stood, whatever others did
pub lane-beside :
    (g : Geometry) (caller : ℕ) (before after : List Event) (e : ErrandFields) (operations : List Op) (registers : List (Option HeldBlock))
    (results : List Outcome) (at : Option (Work HeldBlock)) (calls : List Call) → IsLane g caller before e operations registers results at calls
    → HasSeenMore caller before after → IsLane g caller after e operations registers results at calls
lane-beside g caller before after e operations registers results at calls lane more =
    record {
      made = lane.made;
      under = lane.under;
      making = lane.making;
      begun = lane.begun;
      sight = lane.sight;
      stands = lane.stands;
      more = seen-then caller lane.sight before after lane.more more;
    }

pub lane_of-beside :
    {B : Type 0} (engine : Engine B) (after : List Event) (operations : List Op) (lane : LaneState B) (calls : List Call)
    → IsLaneOf engine operations lane calls → HasSeenMore lane.caller engine.events after → IsLaneOf (record engine { events = after }) operations lane calls
lane_of-beside engine after operations lane calls is more = record {
  stands =
      lane-beside engine.geometry lane.caller engine.events after engine.errand operations (registers_at engine lane.registers.items) lane.outcomes.items
      (work_at engine lane.work) calls is.stands more;
  size = is.size;
  room = is.room;
}

-- what a lane between two operations has made
pub record IsResting (g : Geometry) (caller : ℕ) (events : List Event) (e : ErrandFields) (operations : List Op) (registers : List (Option HeldBlock)) (results : List Outcome)
    (calls : List Call) : Type 0 where
  pub made : List Made
  pub sight : List Event
  pub registers_are : registers ≡ registers_from empty operations results
  pub all : AllMadeFor empty operations results made
  pub leads : LeadsBy (IsCall g) (new_caller caller g) made (record { errand = e; seen = sight })
  pub rests : IsAtRest g (record { errand = e; seen = sight })
  pub calls_are : calls ≡ calls_made made
  pub others : HasSeenMore caller sight events

module _ {g : Geometry} {caller : ℕ} {events : List Event} {e : ErrandFields} {operations : List Op} {registers : List (Option HeldBlock)}
    {results : List Outcome} {at : Option (Work HeldBlock)} {calls : List Call} (lane : IsLane g caller events e operations registers results at calls) where
  resting-by :
      (under : Option Call) → under ≡ None → calls ≡ calls_made lane.made ++ calls_in under
      → StandsBy g caller lane.made under (record { errand = e; seen = lane.sight }) → registers ≡ registers_from empty operations results
      → AllMadeFor empty operations results lane.made → IsResting g caller events e operations registers results calls
  resting-by None is are so registers_are all = record {
    made = lane.made;
    sight = lane.sight;
    registers_are = registers_are;
    all = all;
    leads = so.0;
    rests = so.1;
    calls_are = are ∙ append-nil (calls_made lane.made);
    others = lane.more;
  }
  resting-by (Some call) is are so registers_are all = absurd (cc)

  pub lane-resting : at ≡ None → IsResting g caller events e operations registers results calls
  lane-resting between =
      let m = making-between operations registers results at lane.made lane.under between lane.making in
      resting-by lane.under m.2 lane.begun lane.stands m.0 m.1

-- the calls of a lane that rests are those of its operations with their outcomes
pub lane-script :
    {g : Geometry} {caller : ℕ} {events : List Event} {e : ErrandFields} {operations : List Op} {registers : List (Option HeldBlock)}
    {results : List Outcome} {calls : List Call} → IsLane g caller events e operations registers results None calls
    → Scripts empty operations results calls
lane-script {g = g} {caller = caller} {e = e} {operations = operations} {results = results} lane =
    let r = lane-resting lane refl in
    let now : Caller = record { errand = e; seen = r.sight } in
    let first = leads-first g (new_caller caller g) now r.made r.rests r.leads in
    subst (Scripts empty operations results) (sym r.calls_are)
    (caller-script g operations results empty r.made (new_caller caller g) now first
    (empty-holds (Owns (new_caller caller g))) r.all r.leads)
