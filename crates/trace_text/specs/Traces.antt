-- The traces that texts name.
use Rattle.std.specs.Prelude.{◌≡◌, ℕ, ◌<◌, ◌≤◌, ◌⊎◌, List, codes, length, max, true}
use Rattle.std.specs.List.{All}
use Rattle.heap_geometry.specs.Geometry.{IsChecked, IsWithin}
use Rattle.heap_geometry.specs.declared.limits.TheConstants.{MAX_TURNS}
use Rattle.trace_text.specs.declared.limits.TheConstants.{MAX_LANES, ORDER_MOST}
use Rattle.trace_text.specs.declared.trace.Op.{Op}
use Rattle.trace_text.specs.declared.trace.OrderRun.{OrderRun}
use Rattle.trace_text.specs.declared.trace.Trace.{Trace}
use Rattle.trace_text.specs.declared.trace.Version.{Version}
use Rattle.trace_text.specs.declared.trace.Version.TheVariants.{One, Two}
use Rattle.trace_text.specs.Operations.{AreWithin, IsSince, written_of}

-- the word that begins the heap line of a trace of this version
abbrev pub heap_word : Version → List ℕ
heap_word One = codes "heap"
heap_word Two = codes "heap2"

-- the numbers of an operation are in their ranges
abbrev pub IsOp : Op → Type 0
IsOp op = AreWithin (written_of op).kinds (written_of op).numbers

-- a trace of this version may have the operation
abbrev pub IsAllowed : Version → Op → Type 0
IsAllowed version op = IsSince (written_of op).since version

-- an order run names one of the lanes, and some steps
abbrev pub IsOrder : List (List Op) → OrderRun → Type 0
IsOrder lanes run = (run.lane < length lanes) × IsWithin 1 ORDER_MOST run.steps

-- each lane is a caller of the heap, and there is one caller where there is no lane
abbrev pub callers_of : List (List Op) → ℕ
callers_of lanes = max 1 (length lanes)

-- a trace that a text can name
pub record IsTrace (trace : Trace) : Type 0 where
  pub heap : IsChecked trace.heap
  pub callers : trace.heap.callers ≡ callers_of trace.lanes
  pub turn_limit : (trace.named_limit ≡ true) ⊎ (trace.heap.turn_limit ≡ MAX_TURNS)
  pub few_lanes : length trace.lanes ≤ MAX_LANES
  pub ops : All (All IsOp) trace.lanes
  pub version : All (All (IsAllowed trace.version)) trace.lanes
  pub orders : All (IsOrder trace.lanes) trace.orders
