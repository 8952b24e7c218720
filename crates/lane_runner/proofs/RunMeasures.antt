-- A lane that runs alone ends: each of its advances leaves less of its script, or fewer steps of its call.
use Rattle.std.proofs.Common.{ℕ, ◌≡◌, ◌<◌, ◌≤◌, ◌+◌, ◌*◌, ◌^◌, ◌⊎◌, Bool, true, false, not, if◌then◌else◌, Option, Some, None, List, [], ◌∷◌, refl, sym, ap, ◌∙◌, subst, inl, inr, arith}
use Rattle.std.proofs.lemmas.Bool.{true≢false}
use Rattle.std.proofs.lemmas.List.{append-nil, append_cancel_left}
use Rattle.heap_geometry.specs.declared.geometry.Geometry.{Geometry}
use Rattle.heap_geometry.specs.declared.limits.TheConstants.{CALL_STEPS}
use Rattle.word_table.specs.declared.action.Found.{Found}
use Rattle.pool_model.specs.declared.event.Event.{Event}
use Rattle.pool_model.specs.Histories.{caller_of, own}
use Rattle.pool_model.proofs.HistoryLemmas.{own-append}
use Rattle.pool_model.proofs.OwnerLemmas.{own-none}
use Rattle.trace_text.specs.declared.trace.Op.{Op}
use Rattle.step_parts.specs.declared.large.point.LargePoint.TheVariants as large
use Rattle.step_parts.specs.declared.superblock.point.BlockPoint.{BlockPoint}
use Rattle.step_parts.specs.declared.superblock.point.BlockPoint.TheVariants as block
use Rattle.word_table.specs.Seats.{SeatFields}
use Rattle.step_parts.specs.stack.Points.{seat_of_stack}
use Rattle.step_parts.specs.hazard.Points.{seat_of_desc}
use Rattle.step_parts.specs.partial.Points.{seat_of_partial}
use Rattle.pool_model.specs.declared.event.Event.TheVariants.{Take, TakeNone}
use Rattle.errand_steps.specs.declared.continuation.Continuation.{Continuation}
use Rattle.errand_steps.specs.declared.continuation.Continuation.TheVariants as continuation
use Rattle.errand_steps.specs.declared.point.Point.{Point}
use Rattle.errand_steps.specs.declared.point.Point.TheVariants as point
use Rattle.errand_steps.specs.Begins.{take_begun}
use Rattle.errand_steps.specs.Calls.{take}
use Rattle.errand_steps.specs.Errands.{ErrandFields, counts_lost, course_of, settle_of}
use Rattle.errand_steps.specs.Events.{event_of}
use Rattle.errand_steps.specs.Nexts.{next_of}
use Rattle.errand_steps.specs.Points.{plan_point_of, is_idle}
use Rattle.errand_steps.specs.Steps.{State, Step, event_at, found_at, with_event}
use Rattle.errand_steps.proofs.EventLemmas.{event_own}
use Rattle.errand_steps.specs.tables.Blocks.{block_stage}
use Rattle.errand_steps.specs.tables.CallStage.{continuation_stage}
use Rattle.sound_laws.specs.events.UnderWay.{IsUnderWay, SoFar}
use Rattle.sound_laws.specs.bounds.Alone.{alone_left, class_at, clearings, emptied_for, stale_words}
use Rattle.sound_laws.specs.bounds.Expectations.{expects_of}
use Rattle.sound_state.specs.TurnStages.{in_turn}
use Rattle.sound_laws.proofs.bounds_lemmas.BegunWins.{begun-expects}
use Rattle.std.specs.Prelude.{count_by}
use Rattle.sound_state.specs.Moves.{is_step}
use Rattle.sound_state.specs.Runs.{BeginsCall, Move, begins, steps}
use Rattle.sound_state.specs.Sound.{IsSound}
use Rattle.sound_laws.specs.bounds.StepsLeft.{steps_left}
use Rattle.sound_state.specs.Turns.{one_if}
use Rattle.sound_laws.proofs.bounds_lemmas.AloneLemmas.{alone-falls, alone-stale}
use Rattle.sound_laws.proofs.bounds_lemmas.RunsAlone.{alone-below}
use Rattle.sound_laws.proofs.bounds_lemmas.StaleLemmas.{none-stale}
use Rattle.step_machine.specs.Cores.{CoreFields, IsCore, errand_at, state_of}
use Rattle.step_machine.proofs.CoreLemmas.{core-sound}
use Rattle.lane_engine.specs.declared.grip.Grip.{Grip}
use Rattle.trace_lane.specs.declared.lane.LaneState.{LaneState}
use Rattle.trace_lane.specs.Paths.{MovesLead}
use Rattle.trace_lane.specs.Scripts.{script_left}
use Rattle.trace_lane.specs.Advances.{AdvancesOn, StaysInCall}
use Rattle.trace_lane.specs.States.{StandsOn}

-- a take isn't under way in a superblock, nor at a stack, at the descriptors or at a partial superblock
block-none : (caller k : ℕ) (p : BlockPoint) (o : Continuation) (added : List Event) → SoFar caller (take k) (block_stage p o) added → ⊥
block-none caller k (block.StorePrefix at i) o added way = way
block-none caller k p o added way = way

other-none :
    (caller k : ℕ) (looked : Bool) (s : SeatFields) (o : Continuation) (added : List Event)
    → SoFar caller (take k) (continuation_stage looked s o) added → ⊥
other-none caller k looked s (continuation.Alloc words) added way = way
other-none caller k looked s o added way = way

-- a shelf's word leads on
shelf-busy :
    (e : ErrandFields) (shelf : ℕ) (o : Continuation) (x : Found)
    → is_idle (settle_of (record e { point = point.Large (large.LoadShelf shelf) o }) x).point ≡ true → ⊥
unfolding settle_of course_of next_of
shelf-busy e shelf o x idle = true≢false (sym idle)

-- an event that isn't told
won-none : (won : Bool) (event : Event) → (if won then Some event else None) ≡ None → not won ≡ true
won-none true event is = cc
won-none false event is = refl

-- a take that ends and tells nothing has lost
missed-lost :
    (caller k : ℕ) (e : ErrandFields) (p : Point) (x : Found) (added : List Event) → IsUnderWay caller (take k) p added
    → is_idle (settle_of (record e { point = p }) x).point ≡ true → event_of caller p x ≡ None → counts_lost p x ≡ true
unfolding event_of plan_point_of
missed-lost caller k e point.Idle x added way idle none = absurd way
missed-lost caller k e (point.Block p o) x added way idle none = absurd (block-none caller k p o added way)
missed-lost caller k e (point.Stack p o) x added way idle none = absurd (other-none caller k false (seat_of_stack p) o added way)
missed-lost caller k e (point.Desc p o) x added way idle none = absurd (other-none caller k true (seat_of_desc p) o added way)
missed-lost caller k e (point.Partial p o) x added way idle none = absurd (other-none caller k false (seat_of_partial p) o added way)
missed-lost caller k e (point.Large (large.LoadShelf shelf) o) x added way idle none = absurd (shelf-busy e shelf o x idle)
missed-lost caller k e (point.Large (large.TakeBlock shelf place need) o) x added way idle none =
    won-none x.won (Take caller shelf place) none
missed-lost caller k e (point.Large (large.ConfirmNothing shelf) o) x added way idle none =
    won-none x.won (TakeNone caller shelf) none
missed-lost caller k e (point.Large p o) x added way idle none = absurd way

-- an event of the caller's would be seen
none-with :
    (caller : ℕ) (events : List Event) (o : Option Event) → ((e : Event) → o ≡ Some e → caller_of e ≡ caller)
    → own caller (with_event events o) ≡ own caller events → o ≡ None
none-with caller events None mine same = refl
none-with caller events (Some e) mine same =
    let alone = append_cancel_left (own caller events) (own caller (e ∷ [])) [] (sym (own-append caller events (e ∷ [])) ∙ same ∙ sym (append-nil _)) in
    absurd ((own-none caller e [] alone).0 (mine e refl))

none-told :
    (caller : ℕ) (events : List Event) (p : Point) (x : Found) → own caller (with_event events (event_of caller p x)) ≡ own caller events
    → event_of caller p x ≡ None
none-told caller events p x same = none-with caller events (event_of caller p x) (event_own caller p x) same

-- what is left of a lane: of its script, and of the call under way
abbrev pub lane_left : CoreFields → List Op → LaneState Grip → ℕ
lane_left c operations lane =
    script_left operations lane.outcomes.items lane.work * 2 ^ 64 + alone_left c.geometry (state_of c) lane.caller

-- less is left, in numbers, where a take begins again, where the script falls, and where only the call does
below-again :
    (stale clear left stale' clear' left' : ℕ) → stale ≡ 0 → clear ≡ 0 → left ≡ 2 → 1 ≤ stale'
    → (stale + clear) * CALL_STEPS + left < (stale' + clear') * CALL_STEPS + left'
below-again stale clear left stale' clear' left' a b c d = omega (arith, a, b, c, d)

below-left : (script script' alone alone' : ℕ) → script' < script → alone' < 2 ^ 64 → script' * 2 ^ 64 + alone' < script * 2 ^ 64 + alone
below-left script script' alone alone' a b = omega (arith, a, b)

below-alone : (script script' alone alone' : ℕ) → script' ≡ script → alone' < alone → script' * 2 ^ 64 + alone' < script * 2 ^ 64 + alone
below-alone script script' alone alone' a b = omega (arith, a, b)

-- a take that begins again has less left than before its step
again-falls :
    (g : Geometry) (s mid after : State) (caller shelf : ℕ) → IsSound g s → caller < g.callers → Step s caller mid
    → BeginsCall mid caller (take shelf) after → counts_lost (s.errand caller).point (found_at s caller) ≡ true
    → alone_left g after caller < alone_left g s caller
unfolding take_begun steps_left
again-falls g s mid after caller shelf sound has step begun lost =
    let here : after.errand caller ≡ take_begun (mid.errand caller) shelf =
    ap (λ (t : State). t.errand caller) begun.after ∙ begun.moves.here in
    let there : (after.errand caller).point ≡ point.Large (large.LoadShelf shelf) continuation.Nothing = ap (λ (e : ErrandFields). e.point) here in
    let fresh : stale_words g after caller ≡ 0 =
    none-stale g after caller
    (ap (λ (e : ErrandFields). expects_of e.point) here ∙ begun-expects (mid.errand caller) (take shelf) begun.idle) in
    let turn : in_turn (after.errand caller).point ≡ false = ap in_turn there in
    let clear : clearings g after caller ≡ 0 =
    ap (λ (b : Bool). if b then emptied_for g after (class_at (after.errand caller).point) else 0) turn in
    let left : steps_left g (after.errand caller).point ≡ 2 = ap (steps_left g) there in
    let met = alone-stale g s caller mid sound has step in
    below-again (stale_words g after caller) (clearings g after caller) (steps_left g (after.errand caller).point) (stale_words g s caller)
    (clearings g s caller) (steps_left g (s.errand caller).point) fresh clear left
    (let one : one_if (counts_lost (s.errand caller).point (found_at s caller)) ≡ 1 = ap one_if lost in omega (arith, met, one))

-- the call under way is nearer to its end
step-falls :
    (c after : CoreFields) (caller : ℕ) → IsCore c → caller < c.geometry.callers → MovesLead c (steps caller ∷ []) after
    → alone_left after.geometry (state_of after) caller < alone_left c.geometry (state_of c) caller
step-falls c after caller core has leads =
    let P = λ (d : CoreFields). alone_left d.geometry (state_of d) caller < alone_left c.geometry (state_of c) caller in
    let mid = leads.0 in
    let falls = alone-falls c.geometry (state_of c) caller (state_of mid) (core-sound c core) has leads.1.moved.1 in
    subst P (sym leads.2)
    (subst (λ g. alone_left g (state_of mid) caller < alone_left c.geometry (state_of c) caller) (sym leads.1.heap) falls)

tried-falls :
    (c after : CoreFields) (caller shelf k : ℕ) (added : List Event) → IsCore c → caller < c.geometry.callers
    → MovesLead c (steps caller ∷ begins caller (take shelf) ∷ []) after → own caller after.events ≡ own caller c.events
    → IsUnderWay caller (take k) (errand_at c.errands caller).point added
    → alone_left after.geometry (state_of after) caller < alone_left c.geometry (state_of c) caller
tried-falls c after caller shelf k added core has leads same way =
    let mid = leads.0 in
    let end = leads.2.0 in
    let step = leads.1.moved.1 in
    let begun = leads.2.1.moved.1 in
    let seen : after.events ≡ with_event c.events (event_at (state_of c) caller) =
    ap (λ (d : CoreFields). d.events) leads.2.2 ∙ ap (λ (s : State). s.history) begun.after ∙ step.history in
    let none = none-told caller c.events (errand_at c.errands caller).point (found_at (state_of c) caller) (ap (own caller) (sym seen) ∙ same) in
    let idle : is_idle (settle_of (errand_at c.errands caller) (found_at (state_of c) caller)).point ≡ true =
    ap (λ (e : ErrandFields). is_idle e.point) (sym step.errand.here) ∙ begun.idle in
    let lost =
    missed-lost caller k (errand_at c.errands caller) (errand_at c.errands caller).point (found_at (state_of c) caller) added way idle none in
    let falls =
    again-falls c.geometry (state_of c) (state_of mid) (state_of end) caller shelf (core-sound c core) has step begun lost in
    let P = λ (d : CoreFields). alone_left d.geometry (state_of d) caller < alone_left c.geometry (state_of c) caller in
    subst P (sym leads.2.2)
    (subst (λ g. alone_left g (state_of end) caller < alone_left c.geometry (state_of c) caller) (sym (leads.2.1.heap ∙ leads.1.heap)) falls)

alone-left-falls :
    (c after : CoreFields) (operations : List Op) (old new : LaneState Grip) (moves : List Move) → StandsOn c operations old → MovesLead c moves after
    → count_by is_step moves ≡ 1 → StaysInCall old.caller c after moves ⊎ (moves ≡ [])
    → alone_left after.geometry (state_of after) old.caller < alone_left c.geometry (state_of c) old.caller
alone-left-falls c after operations old new moves stands leads one stays =
    elim stays [
      | inl goes ↦ elim goes [
        | inl is ↦ step-falls c after old.caller stands.core stands.has (subst (λ moves. MovesLead c moves after) is leads)
        | inr again ↦
            tried-falls c after old.caller again.0 again.0 [] stands.core stands.has (subst (λ moves. MovesLead c moves after) again.1 leads) again.2 again.3
      ]
      | inr is ↦ absurd (let e : count_by is_step moves ≡ 0 = ap (count_by is_step) is in omega (arith, one, e))
    ]

pub advance-falls :
    (passed : ℕ → ℕ → Type 0) (c after : CoreFields) (operations : List Op) (old new : LaneState Grip) → StandsOn c operations old
    → AdvancesOn passed operations c after old new true → lane_left after operations new < lane_left c operations old
advance-falls passed c after operations old new stands goes =
    elim goes.advanced.goes_on [
      | inl lt ↦ below-left _ _ _ _ lt (alone-below after.geometry (state_of after) new.caller (core-sound after goes.stands.core) goes.stands.has)
      | inr same ↦ below-alone _ _ _ _
          (let e = same.0 in let f = same.1 in cc)
          (subst (λ k. alone_left after.geometry (state_of after) k < alone_left c.geometry (state_of c) old.caller) (sym goes.caller)
          (alone-left-falls c after operations old new goes.advanced.moves stands goes.advanced.leads goes.advanced.one_step same.2))
    ]
