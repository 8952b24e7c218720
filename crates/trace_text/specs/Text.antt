-- The canonical text of a trace.
use Rattle.std.specs.Prelude.{ℕ, List, [], ◌∷◌, ◌++◌, codes, if◌then◌else◌}
use Rattle.std.specs.List.{flat_map, join_with_byte}
use Rattle.std.specs.Fmt.{decimal}
use Rattle.trace_text.specs.declared.limits.TheConstants.{SPACE, LINE_FEED}
use Rattle.trace_text.specs.declared.trace.Op.{Op}
use Rattle.trace_text.specs.declared.trace.OrderRun.{OrderRun}
use Rattle.trace_text.specs.declared.trace.Trace.{Trace}
use Rattle.trace_text.specs.Operations.{decimals, written_of}
use Rattle.trace_text.specs.Traces.{heap_word}

-- a line: its fields parted by one space, and one line feed
abbrev pub line : List (List ℕ) → List ℕ
line fields = join_with_byte SPACE fields ++ LINE_FEED ∷ []

-- the turn limit, where the trace names it
abbrev pub limit_fields : Trace → List (List ℕ)
limit_fields trace = if trace.named_limit then decimal trace.heap.turn_limit ∷ [] else []

-- the fields of the heap line, which begins with the word of the version
abbrev pub heap_fields : Trace → List (List ℕ)
heap_fields trace =
    heap_word trace.version ∷ decimal trace.heap.frames ∷ decimal trace.heap.heaps ∷ decimal trace.heap.units ∷ limit_fields trace

-- the fields of an operation
unfoldable pub op_fields : Op → List (List ℕ)
op_fields op = ((written_of op).letter ∷ []) ∷ decimals (written_of op).kinds (written_of op).numbers

-- the line of an operation
abbrev pub op_line : Op → List ℕ
op_line op = line (op_fields op)

-- the first line of a lane
abbrev pub lane_line : List ℕ
lane_line = line (codes "lane" ∷ [])

-- the lines of a lane: the word `lane`, and then a line for each operation
abbrev pub lane_lines : List Op → List ℕ
lane_lines ops = lane_line ++ flat_map op_line ops

-- the line of an order run
abbrev pub order_line : OrderRun → List ℕ
order_line run = line (codes "order" ∷ decimal run.lane ∷ decimal run.steps ∷ [])

-- the last line
abbrev pub end_line : List ℕ
end_line = line (codes "end" ∷ [])

-- the canonical text: the heap line, the lanes, the order lines and the last line
unfoldable pub canonical_of : Trace → List ℕ
canonical_of trace =
    line (heap_fields trace) ++ flat_map lane_lines trace.lanes ++ flat_map order_line trace.orders ++ end_line
