-- What the parts of an advance do: what is said of the lane's calls, and what of the machine.
use Rattle.std.specs.Prelude.{ℕ, ◌≡◌, ◌≢◌, ◌<◌, ◌≤◌, ◌+◌, ◌*◌, ◌∷◌, ◌++◌, ◌⊎◌, List, [], Bool, Option, Some, None, drop, length, replicate, count_by, All, vec_capacity, if◌then◌else◌}
use Rattle.std.specs.Option.{option_map}
use Rattle.heap_geometry.specs.declared.need.Need.{Need}
use Rattle.pool_model.specs.declared.event.Event.{Event}
use Rattle.pool_model.specs.Histories.{own}
use Rattle.errand_steps.specs.declared.reply.Reply.{Reply}
use Rattle.errand_steps.specs.declared.reply.Reply.TheVariants as reply
use Rattle.errand_steps.specs.declared.told.Ending.{Ending}
use Rattle.errand_steps.specs.declared.told.Ending.TheVariants as ending
use Rattle.errand_steps.specs.declared.told.Stepped.{Stepped}
use Rattle.errand_steps.specs.Calls.{Call, take}
use Rattle.errand_steps.specs.Errands.{ErrandFields}
use Rattle.errand_steps.specs.Told.{ended_as}
use Rattle.sound_laws.specs.events.Made.{LeadsBy, Made, answered}
use Rattle.sound_laws.specs.events.UnderWay.{IsUnderWay}
use Rattle.sound_state.specs.Moves.{is_step}
use Rattle.sound_state.specs.Runs.{Move, begins, steps}
use Rattle.step_machine.specs.Cores.{CoreFields, errand_at}
use Rattle.step_machine.specs.Moments.{HasSeenMore, IsServed}
use Rattle.trace_text.specs.declared.limits.TheConstants.{REGISTERS}
use Rattle.trace_text.specs.declared.trace.Op.{Op}
use Rattle.lane_engine.specs.declared.begins.NextCall.{NextCall}
use Rattle.lane_engine.specs.declared.grip.Grip.{Grip}
use Rattle.lane_engine.specs.Begins.{call_of}
use Rattle.lane_engine.specs.Callers.{IsAtRest, IsCall, new_caller}
use Rattle.lane_engine.specs.Engines.{Engine, machine_at}
use Rattle.lane_engine.specs.Machines.{MovesCore}
use Rattle.lane_engine.specs.Told.{HasStepped}
use Rattle.trace_text.specs.Operations.{register_of}
use Rattle.lane_outcomes.specs.declared.registers.HeldBlock.{HeldBlock}
use Rattle.lane_outcomes.specs.declared.outcome.Outcome.{Outcome}
use Rattle.lane_outcomes.specs.Lane.{held_in, registers_after}
use Rattle.trace_lane.specs.declared.lane.LaneState.{LaneState}
use Rattle.trace_lane.specs.declared.request.Next.{Next}
use Rattle.trace_lane.specs.declared.request.Next.TheVariants as onward
use Rattle.trace_lane.specs.declared.request.Request.{Request}
use Rattle.trace_lane.specs.declared.work.Work.{Work}
use Rattle.trace_lane.specs.declared.work.Work.TheVariants as work
use Rattle.trace_lane.specs.Made.{IsLater, IsNext}
use Rattle.trace_lane.specs.Begun.{calls_of}
use Rattle.trace_lane.specs.Doing.{AllMadeFor, DoingOf}
use Rattle.trace_lane.specs.Made.{MadeFor, calls_in, calls_made, registers_from}
use Rattle.trace_lane.specs.Paths.{FirstPassed, IsBy, MovesLead, held_blocks}
use Rattle.trace_lane.specs.Requests.{next_held}
use Rattle.trace_lane.specs.Scripts.{begun_bound, begun_count, script_left}
use Rattle.trace_lane.specs.States.{IsLaneOf, IsLaneOn, StandsOn}
use Rattle.trace_lane.specs.Works.{AnswersCall, call_in, calls_bound, calls_ended, rank, work_begun, work_held}

-- the operation at hand, where these have their outcomes, is this one
abbrev pub IsAtHand : List Op → List Outcome → Op → Type 0
IsAtHand operations results operation = (rest : List Op) × (drop (length results) operations ≡ operation ∷ rest)

module _ {B : Type 0} (place_of : B → ℕ) (block_need : B → Need) where
  abbrev pub blocks_of : LaneState B → List (Option HeldBlock)
  blocks_of lane = held_blocks place_of block_need lane.registers.items

  abbrev pub work_of : LaneState B → Option (Work HeldBlock)
  work_of lane = option_map (work_held place_of block_need) lane.work

  -- the operation has ended these calls: it has its outcome where it has no call more, else that call is the next one
  abbrev pub ComesTo : Op → List (Option HeldBlock) → List Outcome → List Made → Option NextCall → LaneState B → Type 0
  ComesTo operation before results made None lane =
      (result : Outcome) × (lane.outcomes.items ≡ results ++ result ∷ []) × (lane.work ≡ None)
      × MadeFor (held_in before (register_of operation)) operation result made
      × (blocks_of lane ≡ registers_after before operation result)
  ComesTo operation before results made (Some call) lane =
      (lane.outcomes.items ≡ results) × (at : Work HeldBlock) × (work_of lane ≡ Some at)
      × DoingOf before (blocks_of lane) operation (Some at) made × (call_of call ≡ call_in at)

  -- a call more is further on in the operation; but a take that missed is tried again where it stands
  abbrev pub IsFurther : LaneState B → Reply → Option NextCall → LaneState B → Type 0
  IsFurther old told None new = Unit {0}
  IsFurther old told (Some call) new =
      (work_begun old.work < work_begun new.work)
      ⊎ ((shelf : ℕ) × (call_of call ≡ take shelf) × (old.work ≡ Some (work.Taking shelf)) × (new.work ≡ Some (work.Taking shelf))
      × (expected : ℕ) × (found : ℕ) × (told ≡ reply.Missed expected found))

  -- what both leave as it is
  pub record KeepsLane (old new : LaneState B) : Type 0 where
    pub caller : new.caller ≡ old.caller
    pub size : length new.registers.items ≡ length old.registers.items
    pub room : vec_capacity new.outcomes ≡ vec_capacity old.outcomes

  -- an operation goes on so: with the first call of what it asks for, or with its outcome
  pub record TakesUp (next : Next B) (old : LaneState B) (call : Option NextCall) (new : LaneState B) : Type 0 where
    pub caller : new.caller ≡ old.caller
    pub registers : new.registers ≡ old.registers
    pub room : vec_capacity new.outcomes ≡ vec_capacity old.outcomes
    pub comes :
        (operation : Op) (before : List (Option HeldBlock)) (made : List Made)
        → IsNext before operation (next_held place_of block_need next) made (blocks_of old)
        → ComesTo operation before old.outcomes.items made call new
    pub later :
        (asked : Request HeldBlock) (some : NextCall) → call ≡ Some some → IsLater asked (next_held place_of block_need next)
        → rank asked * calls_bound + calls_bound < work_begun new.work
    pub asks : (some : NextCall) → call ≡ Some some → (asked : Request HeldBlock) × (next_held place_of block_need next ≡ onward.Ask asked)

  -- an operation begins
  pub record HasBegun (operation : Op) (old : LaneState B) (next : Option NextCall) (new : LaneState B) : Type 0 where
    pub keeps : KeepsLane old new
    pub comes : ComesTo operation (blocks_of old) old.outcomes.items [] next new

  -- a call of the operation has ended so
  pub record MayAnswer (operation : Op) (ended : Ending B) (lane : LaneState B) : Type 0 where
    pub before : List (Option HeldBlock)
    pub made : List Made
    pub at : Work HeldBlock
    pub at_is : work_of lane ≡ Some at
    pub doing : DoingOf before (blocks_of lane) operation (Some at) made
    pub answers : AnswersCall place_of block_need (call_in at) ended
    pub few : calls_ended at < calls_bound

  pub record HasAnswered (operation : Op) (ended : Ending B) (old : LaneState B) (next : Option NextCall) (new : LaneState B) : Type 0 where
    pub keeps : KeepsLane old new
    pub further : IsFurther old (ended_as place_of block_need ended) next new
    pub over : ended ≡ ending.Spent → next ≡ None
    pub comes :
        (before : List (Option HeldBlock)) (made : List Made) (at : Work HeldBlock) → work_of old ≡ Some at
        → DoingOf before (blocks_of old) operation (Some at) made
        → ComesTo operation before old.outcomes.items (made ++ answered (call_in at) (ended_as place_of block_need ended) ∷ []) next new

-- a caller of a machine began this call, or did nothing
abbrev pub BeganAtMost : ℕ → Option Call → CoreFields → CoreFields → Type 0
BeganAtMost caller None old new = new ≡ old
BeganAtMost caller (Some call) old new = MovesCore old (begins caller call) new

-- no call began; or a take was tried again, and the step before it added no event of the caller
abbrev pub IsAgain : ℕ → List Event → ErrandFields → List Event → Option Call → Type 0
IsAgain caller seen e now begun =
    (begun ≡ None)
    ⊎ ((shelf : ℕ) × (begun ≡ Some (take shelf)) × (own caller now ≡ own caller seen) × IsUnderWay caller (take shelf) e.point [])

-- a lane of these operations, which has begun these calls, is between two of them, and this one is the next
pub record IsBefore {B : Type 0} (engine : Engine B) (operation : Op) (operations : List Op) (calls : List Call) (lane : LaneState B) : Type 0 where
  pub next : IsAtHand operations lane.outcomes.items operation
  pub between : lane.work ≡ None
  pub stands : IsLaneOf engine operations lane calls
  pub served : IsServed engine.geometry lane.caller engine.errand engine.events

-- a step of the call under way, which belongs to this operation, came to what is told, where the caller had this errand and these events were seen before it; the lane has not gone on by that yet
pub record IsTold {B : Type 0} (engine : Engine B) (operation : Op) (told : Stepped B) (seen : List Event) (e : ErrandFields) (operations : List Op)
    (calls : List Call) (lane : LaneState B) : Type 0 where
  pub next : IsAtHand operations lane.outcomes.items operation
  pub stood : IsLaneOf (record engine { events = seen; errand = e }) operations lane calls
  pub stepped : HasStepped engine.place_of engine.need_of e engine.errand seen engine.events told
  pub served : IsServed engine.geometry lane.caller e seen
  pub still_served : IsServed engine.geometry lane.caller engine.errand engine.events

-- the operation at hand has come to its next call or to its outcome, by the whole calls that its caller has made; no call of it is under way. A call that doesn't rise further is a take that is tried again
pub record IsComing {B : Type 0} (engine : Engine B) (seen : List Event) (e : ErrandFields) (operation : Op) (next : Option NextCall) (operations : List Op)
    (calls : List Call) (old new : LaneState B) : Type 0 where
  pub here : IsAtHand operations old.outcomes.items operation
  pub past : List Made
  pub present : List Made
  pub ended : AllMadeFor (replicate REGISTERS None) operations old.outcomes.items past
  pub comes :
      ComesTo engine.place_of engine.need_of operation (registers_from (replicate REGISTERS None) operations old.outcomes.items) old.outcomes.items present
      next new
  pub keeps : KeepsLane engine.place_of engine.need_of old new
  pub sight : List Event
  pub leads : LeadsBy (IsCall engine.geometry) (new_caller old.caller engine.geometry) (past ++ present) (record { errand = engine.errand; seen = sight })
  pub rests : IsAtRest engine.geometry (record { errand = engine.errand; seen = sight })
  pub others : HasSeenMore old.caller sight engine.events
  pub served : IsServed engine.geometry old.caller engine.errand engine.events
  pub begun : calls ≡ calls_made (past ++ present)
  pub few : work_begun old.work < begun_bound
  pub rises :
      (call : NextCall) → next ≡ Some call
      → (work_begun old.work < work_begun new.work)
      ⊎ ((new.work ≡ old.work) × IsAgain old.caller seen e engine.events (Some (call_of call)))
  pub size : length old.registers.items ≡ REGISTERS
  pub room : length operations ≤ vec_capacity old.outcomes

-- what a lane has when it has gone on, and began this call or none: it stands, with this call more, and what is left of its script falls, but where the operation stays where it is
pub record HasGoneOn {B : Type 0} (engine : Engine B) (seen : List Event) (e : ErrandFields) (begun : Option Call) (operations : List Op) (calls : List Call)
    (old new : LaneState B) : Type 0 where
  pub stands : IsLaneOf engine operations new (calls ++ calls_in begun)
  pub falls :
      (script_left operations new.outcomes.items new.work < script_left operations old.outcomes.items old.work)
      ⊎ ((new.outcomes.items ≡ old.outcomes.items) × (new.work ≡ old.work) × IsAgain old.caller seen e engine.events begun)
  pub count : begun_count new.outcomes.items new.work ≡ length old.outcomes.items + 1

-- a lane went on over a machine without a step, whatever its operations are, if they and the lane were ready for that
pub record LaneGoesOn (ready : List Event → ErrandFields → List Op → List Call → LaneState Grip → Type 0) (old new : CoreFields)
    (lane after : LaneState Grip) : Type 0 where
  pub begun : Option Call
  pub called : BeganAtMost lane.caller begun old new
  pub same_caller : after.caller ≡ lane.caller
  pub gone_on :
      (seen : List Event) (e : ErrandFields) (operations : List Op) (calls : List Call) → ready seen e operations calls lane
      → HasGoneOn (machine_at new lane.caller) seen e begun operations calls lane after

-- a lane is between two operations, and this one is the next; a step of this one came to what is told; it has come to its next call or to its outcome
abbrev pub MayBeginOperation : Op → CoreFields → List Op → List Call → LaneState Grip → Type 0
MayBeginOperation operation c operations calls lane = IsBefore (machine_at c lane.caller) operation operations calls lane

abbrev pub MayGoOn : Op → Stepped Grip → CoreFields → List Event → ErrandFields → List Op → List Call → LaneState Grip → Type 0
MayGoOn operation told c seen e operations calls lane = IsTold (machine_at c lane.caller) operation told seen e operations calls lane

abbrev pub MayBeginCall : Op → Option NextCall → CoreFields → LaneState Grip → List Event → ErrandFields → List Op → List Call → LaneState Grip → Type 0
MayBeginCall operation next c mid seen e operations calls lane = IsComing (machine_at c lane.caller) seen e operation next operations calls lane mid

-- a lane goes on as its operation begins or has its outcome; and by what was told
abbrev pub BeginsOperation : Op → CoreFields → CoreFields → LaneState Grip → LaneState Grip → Type 0
BeginsOperation operation old new lane after = LaneGoesOn (λ seen e. MayBeginOperation operation old) old new lane after

abbrev pub GoesOnBy : Op → Stepped Grip → CoreFields → CoreFields → LaneState Grip → LaneState Grip → Type 0
GoesOnBy operation told old new lane after = LaneGoesOn (MayGoOn operation told old) old new lane after

-- an advance goes on with the call that was under way before, or tries a take again that missed: a step that missed adds no event of the caller to those seen
abbrev pub StaysInCall : ℕ → CoreFields → CoreFields → List Move → Type 0
StaysInCall caller before after moves =
    (moves ≡ steps caller ∷ [])
    ⊎ ((shelf : ℕ) × (moves ≡ steps caller ∷ begins caller (take shelf) ∷ []) × (own caller after.events ≡ own caller before.events)
    × IsUnderWay caller (take shelf) (errand_at before.errands caller).point [])

-- an advance of a lane: its caller alone moved, by one step where it made one and by none else, and began the calls of its script; what is left of the script falls with each step, but where the call goes on
pub record HasAdvanced (before after : CoreFields) (caller : ℕ) (operations : List Op) (old new : LaneState Grip) (made : Bool) : Type 0 where
  pub moves : List Move
  pub leads : MovesLead before moves after
  pub by_caller : All (IsBy caller) moves
  pub one_step : count_by is_step moves ≡ (if made then 1 else 0)
  pub script :
      (calls : List Call) → IsLaneOn before operations old calls
      → IsLaneOn after operations new (calls ++ calls_of caller moves)
  pub goes_on :
      (script_left operations new.outcomes.items new.work < script_left operations old.outcomes.items old.work)
      ⊎ ((new.outcomes.items ≡ old.outcomes.items) × (new.work ≡ old.work) × (StaysInCall caller before after moves ⊎ (moves ≡ [])))

-- a lane of these operations has gone on over a machine, by one step where it made one and by none else: it stands, no other caller moved, and what it has begun has passed the gate
pub record AdvancesOn (passed : ℕ → ℕ → Type 0) (operations : List Op) (old new : CoreFields) (lane after : LaneState Grip) (made : Bool) : Type 0 where
  pub geometry : new.geometry ≡ old.geometry
  pub caller : after.caller ≡ lane.caller
  pub stands : StandsOn new operations after
  pub others :
      (other : ℕ) → other ≢ lane.caller
      → (errand_at new.errands other ≡ errand_at old.errands other) × HasSeenMore other old.events new.events
  pub advanced : HasAdvanced old new lane.caller operations lane after made
  pub gate :
      FirstPassed passed lane.caller (begun_count lane.outcomes.items lane.work)
      → FirstPassed passed lane.caller (begun_count after.outcomes.items after.work)
