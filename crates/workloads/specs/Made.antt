-- The trace of a workload.
use Rattle.std.specs.Prelude.{ℕ, zero, suc, ◌+◌, ◌/◌, ◌%◌, false, nat_lt, if◌then◌else◌, List, [], ◌∷◌, ◌++◌}
use Rattle.heap_geometry.specs.declared.geometry.Geometry.{Geometry}
use Rattle.heap_geometry.specs.declared.limits.TheConstants.{MAX_TURNS}
use Rattle.trace_text.specs.declared.trace.Op.{Op}
use Rattle.trace_text.specs.declared.trace.Trace.{Trace}
use Rattle.trace_text.specs.declared.trace.Version.TheVariants.{One}
use Rattle.workloads.specs.declared.kind.Kind.{Kind}
use Rattle.workloads.specs.declared.kind.Kind.TheVariants as kinds
use Rattle.workloads.specs.declared.making.TheConstants.{FRAMES}
use Rattle.workloads.specs.Draws.{Draws, just, ◌>>=◌, seeded_by}
use Rattle.workloads.specs.Lanes.{scalability, threadtest, larson, pipeline}

-- the rounds of a lane: an eighth of the size, and one more for the first lanes where some are over
abbrev pub rounds_of : ℕ → ℕ → ℕ
rounds_of size lane = size / 8 + (if nat_lt lane (size % 8) then 1 else 0)

-- what a lane does in so many rounds
abbrev pub lane_of : Kind → ℕ → ℕ → Draws (List Op)
lane_of kinds.Scalability lane rounds = scalability rounds
lane_of kinds.Threadtest lane rounds = threadtest rounds
lane_of kinds.Larson lane rounds = larson rounds
lane_of kinds.Pipeline lane rounds = pipeline lane rounds

-- the first lanes, each by the draws that come after those of the lanes before it
unfoldable pub lanes_of : Kind → ℕ → ℕ → Draws (List (List Op))
lanes_of kind size zero = just []
lanes_of kind size (suc lane) = do
  before ← lanes_of kind size lane
  ops ← lane_of kind lane (rounds_of size lane)
  just (before ++ ops ∷ [])

-- the heap of a workload has a caller for each of eight lanes, and no units
abbrev pub workload_heap : Geometry
workload_heap = record { frames = FRAMES; heaps = 8; units = 0; callers = 8; turn_limit = MAX_TURNS }

-- the trace of a kind, a size and a number: of version 1, with eight lanes, and no order runs
unfoldable pub made : Kind → ℕ → ℕ → Trace
made kind size start = record {
  version = One;
  heap = workload_heap;
  named_limit = false;
  lanes = (lanes_of kind size 8 (seeded_by start)).0;
  orders = [];
}
