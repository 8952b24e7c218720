-- What is so of every pass, also where it has begun a call.
use Rattle.std.proofs.Common.{ℕ, ◌≡◌, ◌<◌, ◌+◌, ◌^◌, List, refl, sym, ap, ◌∙◌, subst, arith}
use Rattle.std.proofs.lemmas.Bool.{cond_both}
use Rattle.heap_geometry.specs.declared.geometry.Geometry.{Geometry}
use Rattle.heap_geometry.specs.declared.need.Need.{Need}
use Rattle.heap_geometry.specs.declared.need.Need.TheVariants.{Small, Large, TooLarge}
use Rattle.heap_geometry.specs.Need.{need_of}
use Rattle.pool_model.specs.declared.event.Event.{Event}
use Rattle.pool_model.specs.Legal.{IsLegal}
use Rattle.pool_model.specs.Pool.{pool_of}
use Rattle.pool_model.specs.WellFormed.{IsWellFormed}
use Rattle.pool_model.proofs.HistoryLemmas.{legal-weaker}
use Rattle.pool_model.proofs.PoolLemmas.{every-each, place-found}
use Rattle.pool_model.proofs.WellFormedLemmas.{sound-of}
use Rattle.errand_steps.specs.Begins.{IsIdle, IsHeapBlock, begins_alloc, alloc_begun, free_begun, write_begun, read_begun, put_begun, take_begun}
use Rattle.errand_steps.specs.Calls.{Call, alloc, free, write, read, put, take, begun_by}
use Rattle.errand_steps.specs.Errands.{ErrandFields, IsErrand, is_spent}
use Rattle.sound_state.specs.Recalls.{IsOwned}
use Rattle.sound_state.specs.Runs.{MayBegin}
use Rattle.sound_state.specs.TurnStages.{turn_stage_of, lacks_answer, is_unneeded}
use Rattle.errand_steps.specs.tables.TurnStage.{out_of_turn}
use Rattle.sound_state.specs.Turns.{one_if, errand_discards, turn_unanswered}
use Rattle.errand_steps.proofs.BegunErrands.{idle-is, alloc-errand, free-errand, write-errand, read-errand, put-errand, take-errand}
use Rattle.step_machine.specs.Moments.{IsServed}
use Rattle.live_heap.specs.Sights.{after_events}
use Rattle.live_heap.proofs.Moves.{begun-caller, begun-geometry}

-- a call that begins leaves what its caller has lost
pub begun-lost : (e : ErrandFields) (call : Call) → (begun_by e call).lost ≡ e.lost
unfolding alloc_begun free_begun write_begun read_begun put_begun take_begun
begun-lost e call = grind (arith)

-- from one errand to another at most one turn is taken, which has no answer yet, and the second one has discarded nothing
record TakesTurn (e f : ErrandFields) : Type 0 where
  turns : f.turns ≡ e.turns + turn_unanswered f
  discards : errand_discards f ≡ 0

-- who is in no call has no turn without an answer
idle-takes : (e : ErrandFields) → IsIdle e → TakesTurn e e
idle-takes e idle =
    let at : turn_stage_of e.point ≡ out_of_turn = ap turn_stage_of (idle-is e.point idle) in
    let none : turn_unanswered e ≡ 0 = ap (λ stage. one_if (lacks_answer stage)) at in
    record { turns = omega (arith, none); discards = ap (λ stage. one_if (is_unneeded stage)) at }

-- a call that begins takes one turn at most
alloc-takes : (e : ErrandFields) (words : ℕ) (n : Need) → IsErrand e → IsIdle e → TakesTurn e (begins_alloc e words n)
alloc-takes e words (Small class) rule idle =
    cond_both (is_spent e) e _ (TakesTurn e) (λ spent. idle-takes e idle)
    (λ left.
    record {
      turns = let most = rule.turns in let limit = rule.geometry.turn_limit in grind (arith, left, most, limit);
      discards = refl;
    })
alloc-takes e words (Large units) rule idle = record { turns = omega arith; discards = refl }
alloc-takes e words TooLarge rule idle = idle-takes e idle

begun-takes : (e : ErrandFields) (call : Call) → IsErrand e → IsIdle e → TakesTurn e (begun_by e call)
unfolding alloc_begun free_begun write_begun read_begun put_begun take_begun
begun-takes e (alloc words) rule idle = alloc-takes e words (need_of words) rule idle
begun-takes e (free place (Small class)) rule idle = record { turns = omega arith; discards = refl }
begun-takes e (free place (Large units)) rule idle = record { turns = omega arith; discards = refl }
begun-takes e (free place TooLarge) rule idle = idle-takes e idle
begun-takes e (write place need i value) rule idle = record { turns = omega arith; discards = refl }
begun-takes e (read place need i) rule idle = record { turns = omega arith; discards = refl }
begun-takes e (put place need shelf) rule idle = record { turns = omega arith; discards = refl }
begun-takes e (take shelf) rule idle = record { turns = omega arith; discards = refl }

-- a block that a caller owns is one of the heap's
pub owned-here :
    (g : Geometry) (events : List Event) (caller place : ℕ) (need : Need) → IsLegal g events → IsOwned (after_events events) caller place need
    → IsHeapBlock g place need
owned-here g events caller place need legal owned =
    let b = owned.block.0 in
    let live = owned.block.1 in
    let formed =
    every-each (IsWellFormed g) (pool_of events) (sound-of g events (legal-weaker g events legal)).each place b live in
    let at : b.place ≡ place = place-found place (pool_of events) b live in
    subst (λ m. IsHeapBlock g place m) owned.block.3 (subst (λ q. IsHeapBlock g q b.need) at (formed.need, formed.place))

-- an errand that begins a call which it may begin keeps its rule
begun-errand :
    (g : Geometry) (events : List Event) (e : ErrandFields) (call : Call) → IsLegal g events → e.geometry ≡ g → IsErrand e → IsIdle e
    → MayBegin (after_events events) e.caller call → IsErrand (begun_by e call)
begun-errand g events e (alloc words) legal laid rule idle may = alloc-errand e words rule idle
begun-errand g events e (free place need) legal laid rule idle may =
    free-errand e place need (subst (λ h. IsHeapBlock h place need) (sym laid) (owned-here g events e.caller place need legal may)) rule idle
begun-errand g events e (write place need i value) legal laid rule idle may =
    write-errand e place need i value (subst (λ h. IsHeapBlock h place need) (sym laid) (owned-here g events e.caller place need legal may.0))
    may.1 may.2 rule idle
begun-errand g events e (read place need i) legal laid rule idle may =
    read-errand e place need i (subst (λ h. IsHeapBlock h place need) (sym laid) (owned-here g events e.caller place need legal may.0)) may.1 rule
    idle
begun-errand g events e (put place need shelf) legal laid rule idle may =
    put-errand e place need shelf (subst (λ h. IsHeapBlock h place need) (sym laid) (owned-here g events e.caller place need legal may.0)) may.1
    rule idle
begun-errand g events e (take shelf) legal laid rule idle may = take-errand e shelf may rule idle

-- what is so of a caller in no call, by its errand and events, is so of it with a call that it has begun
pub call-served :
    (g : Geometry) (before : ErrandFields) (events : List Event) (call : Call) → IsServed g before.caller before events → IsIdle before
    → MayBegin (after_events events) before.caller call → IsServed g (begun_by before call).caller (begun_by before call) events
call-served g before events call served idle may =
    let f = begun_by before call in
    let same : f.caller ≡ before.caller = begun-caller before call in
    let takes = begun-takes before call served.own_errand.rule idle in
    let lost = begun-lost before call in
    let none = (idle-takes before idle).turns in
    subst (λ k. IsServed g k f events) (sym same)
    (record {
      checked = served.checked;
      has = served.has;
      own_errand = record {
        number = same;
        geometry = begun-geometry before call ∙ served.own_errand.geometry;
        rule = begun-errand g events before call served.legal served.own_errand.geometry served.own_errand.rule idle may;
        lost = subst (λ n. n < 2 ^ 64) (sym lost) served.own_errand.lost;
      };
      legal = served.legal;
      answers = omega (arith, served.answers, takes.turns);
      by_lost = omega (arith, served.by_lost, takes.turns, takes.discards, lost, none);
      by_given = omega (arith, served.by_given, takes.turns, none);
    })
