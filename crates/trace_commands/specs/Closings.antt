-- The heap that a run leaves.
use Rattle.std.specs.Prelude.{ℕ, ◌∷◌, List, [], codes}
use Rattle.std.specs.Fmt.{decimal}
use Rattle.heap_geometry.specs.declared.geometry.Geometry.{Geometry}
use Rattle.pool_model.specs.declared.event.Event.{Event}
use Rattle.errand_steps.specs.Errands.{ErrandFields}
use Rattle.sound_laws.specs.bounds.Contention.{lost_of as lost_by}
use Rattle.sound_state.specs.Sums.{callers_sum}
use Rattle.step_machine.specs.Cores.{CoreFields, errand_at}
use Rattle.trace_text.specs.Text.{line}
use Rattle.trace_text.specs.declared.trace.OrderRun.{OrderRun}
use Rattle.trace_text.specs.declared.trace.Trace.{Trace}
use Rattle.lane_outcomes.specs.declared.outcome.Outcome.{Outcome}
use Rattle.lane_runner.specs.Driven.{IsDriven, lost_by_all}
use Rattle.lane_runner.specs.Shared.{IsShared}
use Rattle.lane_runner.specs.Shared.{IsSharedThrough}
use Rattle.trace_commands.specs.declared.closing.Closing.{Closing}
use Rattle.live_heap.specs.Endings.{ClosedFields}
use Rattle.trace_commands.specs.declared.closing.Closing.TheVariants.{Stepped, Ran, Piped}

-- the numbers that the heap was opened with
abbrev pub geometry_of : Closing → Geometry
geometry_of (Stepped core) = core.geometry
geometry_of (Ran closed) = closed.geometry
geometry_of (Piped run) = run.closed.geometry

-- the history of the heap
abbrev pub history_of : Closing → List Event
history_of (Stepped core) = core.events
history_of (Ran closed) = closed.events
history_of (Piped run) = run.closed.events

-- what all callers of a closed heap lost, as a whole number
abbrev pub lost_by_threads : ClosedFields → ℕ
lost_by_threads closed = callers_sum closed.geometry lost_by (errand_at closed.errands)

-- the turns that a caller has taken in the heap
abbrev pub turns_of : Closing → ℕ → ℕ
turns_of (Stepped core) caller = (errand_at core.errands caller).turns
turns_of (Ran closed) caller = (errand_at closed.errands caller).turns
turns_of (Piped run) caller = (errand_at run.closed.errands caller).turns

-- the exchanges that the heap's callers lost, as a whole number
abbrev pub lost_of : Closing → ℕ
lost_of (Stepped core) = lost_by_all core
lost_of (Ran closed) = lost_by_threads closed
lost_of (Piped run) = lost_by_threads run.closed

-- a machine kept the heap: the lanes of the trace ran on it from its opening on, in the order of these order runs
-- and then one lane after another, and had these outcomes
abbrev pub IsDrivenIn : Trace → List OrderRun → Closing → List (List Outcome) → Type 0
IsDrivenIn trace orders (Stepped core) outcomes = IsDriven trace orders core outcomes
IsDrivenIn trace orders (Ran closed) outcomes = ⊥
IsDrivenIn trace orders (Piped run) outcomes = ⊥

-- threads shared the heap: each lane of the trace ran on one, from the heap's opening on, in the order that the hardware made,
-- by the whole calls of its script, and had these outcomes
abbrev pub IsSharedIn : Trace → Closing → List (List Outcome) → Type 0
IsSharedIn trace (Stepped core) outcomes = ⊥
IsSharedIn trace (Ran closed) outcomes = IsShared trace closed outcomes
IsSharedIn trace (Piped run) outcomes = ⊥

-- threads ran the lanes of the trace over one heap, each through a cache of this depth, emptied at its end, which served so many allocations
abbrev pub IsSharedThroughIn : Trace → ℕ → List ℕ → Closing → List (List Outcome) → Type 0
IsSharedThroughIn trace depth hits (Stepped core) outcomes = ⊥
IsSharedThroughIn trace depth hits (Ran closed) outcomes = IsSharedThrough trace depth closed outcomes hits
IsSharedThroughIn trace depth hits (Piped run) outcomes = ⊥

-- what all callers of a machine cleared, as a whole number
abbrev pub cleared_of : ErrandFields → ℕ
cleared_of errand = errand.cleared

abbrev pub cleared_by_all : CoreFields → ℕ
cleared_by_all core = callers_sum core.geometry cleared_of (errand_at core.errands)

-- the line of the steps that a machine made, and of what its callers lost and cleared
abbrev pub steps_line : CoreFields → List ℕ
steps_line core =
    line (
    codes "steps" ∷ decimal core.steps ∷ codes "lost" ∷ decimal (lost_by_all core) ∷ codes "cleared"
    ∷ decimal (cleared_by_all core) ∷ []
    )

-- the line of a machine's steps; those of threads are not counted
abbrev pub steps_of : Closing → List ℕ
steps_of (Stepped core) = steps_line core
steps_of (Ran closed) = []
steps_of (Piped run) = []
