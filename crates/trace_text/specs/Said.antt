-- What one line says at its place in the text, and the trace after it.
use Rattle.std.specs.Prelude.{ℕ, Bool, ◌&&◌, ◌==◌, nat_le, nat_lt, if◌then◌else◌, List, [], ◌∷◌, ◌++◌, length, codes, Option, Some, None, is_some, unwrap_or, Result, Ok, Err, ok_or}
use Rattle.std.specs.List.{list_all}
use Rattle.std.specs.Str.{bytes_eq}
use Rattle.heap_geometry.specs.declared.limits.TheConstants.{MAX_FRAMES, MAX_HEAPS, MAX_UNITS, MAX_TURNS}
use Rattle.trace_text.specs.declared.limits.TheConstants.{MAX_LANES, ORDER_MOST}
use Rattle.trace_text.specs.declared.fault.Cause.{Cause}
use Rattle.trace_text.specs.declared.fault.Cause.TheVariants.{NotAscii, NoHeapLine, BadGeometry, UnknownOp, WrongFields, BadNumber, OutOfRange, TooManyLanes}
use Rattle.trace_text.specs.declared.kinds.Kind.{Kind}
use Rattle.trace_text.specs.declared.kinds.Kinds.{Kinds}
use Rattle.trace_text.specs.declared.kinds.Kinds.TheVariants as kinds
use Rattle.trace_text.specs.declared.kinds.Numbers.{Numbers}
use Rattle.trace_text.specs.declared.trace.Op.{Op}
use Rattle.trace_text.specs.declared.trace.OrderRun.{OrderRun}
use Rattle.trace_text.specs.declared.trace.Trace.{Trace}
use Rattle.trace_text.specs.declared.trace.Version.{Version}
use Rattle.trace_text.specs.declared.trace.Version.TheVariants.{One, Two}
use Rattle.trace_text.specs.declared.stage.ReadingStage.{ReadingStage}
use Rattle.trace_text.specs.declared.stage.ReadingStage.TheVariants.{Before, Inside, Ended}
use Rattle.trace_text.specs.Causes.{◌>>=◌}
use Rattle.trace_text.specs.Lines.{fields_of, is_plain, is_comment}
use Rattle.trace_text.specs.Numbers.{number_in}
use Rattle.trace_text.specs.Operations.{Maker, is_since, made_by, maker_of, most_of, written_by}
use Rattle.trace_text.specs.Traces.{heap_word, callers_of}

-- a field as a number
unfoldable pub numeral_in : List ℕ → Result ℕ Cause
numeral_in field = ok_or (number_in field) BadNumber

-- a number in its range, or this cause
unfoldable pub ranged : Cause → ℕ → ℕ → ℕ → Result ℕ Cause
ranged cause low high n = if nat_le low n && nat_le n high then Ok n else Err cause

-- a number of an operation or an order run in its range
abbrev pub up_to : ℕ → ℕ → Result ℕ Cause
up_to most n = ranged OutOfRange 0 most n

-- a number of an operation that says something of this kind
abbrev pub kind_of : Kind → ℕ → Result ℕ Cause
kind_of kind n = up_to (most_of kind) n

-- at least one field behind the word
abbrev pub some_in : List (List ℕ) → Result (List (List ℕ)) Cause
some_in [] = Err WrongFields
some_in (a ∷ fields) = Ok (a ∷ fields)

-- no field behind the word
abbrev pub none_in : List (List ℕ) → Result (Unit {0}) Cause
none_in [] = Ok tt
none_in (a ∷ fields) = Err WrongFields

-- the number that is the one field behind the word
unfoldable pub one_in : List (List ℕ) → Result ℕ Cause
one_in (a ∷ []) = numeral_in a
one_in fields = Err WrongFields

-- the numbers that are the two fields behind the word
unfoldable pub two_in : List (List ℕ) → Result (ℕ × ℕ) Cause
two_in (a ∷ b ∷ []) = do
  a ← numeral_in a
  b ← numeral_in b
  Ok (a, b)
two_in fields = Err WrongFields

-- the numbers that are the three fields behind the word
unfoldable pub three_in : List (List ℕ) → Result (ℕ × ℕ × ℕ) Cause
three_in (a ∷ b ∷ c ∷ []) = do
  a ← numeral_in a
  b ← numeral_in b
  c ← numeral_in c
  Ok (a, b, c)
three_in fields = Err WrongFields

-- the three or four fields behind the word of a heap line
abbrev pub heap_fields_in : List (List ℕ) → Result (List ℕ × List ℕ × List ℕ × Option (List ℕ)) Cause
heap_fields_in (frames ∷ heaps ∷ units ∷ []) = Ok (frames, heaps, units, None)
heap_fields_in (frames ∷ heaps ∷ units ∷ limit ∷ []) = Ok (frames, heaps, units, Some limit)
heap_fields_in fields = Err WrongFields

-- the turn limit, where it is named
abbrev pub limit_in : Option (List ℕ) → Result (Option ℕ) Cause
limit_in None = Ok None
limit_in (Some field) = numeral_in field >>= λ limit. Ok (Some limit)

-- the numbers of a heap line
unfoldable pub heap_numbers_in : List (List ℕ) → Result (ℕ × ℕ × ℕ × Option ℕ) Cause
heap_numbers_in fields = do
  f ← heap_fields_in fields
  frames ← numeral_in f.0
  heaps ← numeral_in f.1
  units ← numeral_in f.2
  limit ← limit_in f.3
  Ok (frames, heaps, units, limit)

-- the version that the word of a heap line says, where the versions up to this one are known
unfoldable pub version_in : Version → List ℕ → Result Version Cause
version_in One word = if bytes_eq word (heap_word One) then Ok One else Err NoHeapLine
version_in Two word =
    if bytes_eq word (heap_word One) then Ok One
    else (if bytes_eq word (heap_word Two) then Ok Two else Err NoHeapLine)

-- the trace of this version that a heap line begins: no lane yet, and so one caller
unfoldable pub heap_in : Version → List (List ℕ) → Result Trace Cause
heap_in version fields = do
  n ← heap_numbers_in fields
  frames ← ranged BadGeometry 1 MAX_FRAMES n.0
  heaps ← ranged BadGeometry 1 MAX_HEAPS n.1
  units ← ranged BadGeometry 0 MAX_UNITS n.2
  limit ← ranged BadGeometry 1 MAX_TURNS (unwrap_or n.3 MAX_TURNS)
  Ok (record {
    version = version;
    heap = record { frames = frames; heaps = heaps; units = units; callers = callers_of []; turn_limit = limit };
    named_limit = is_some n.3;
    lanes = [];
    orders = [];
  })

-- the numbers of these kinds that are the fields behind the word
unfoldable pub numbers_in : Kinds → List (List ℕ) → Result Numbers Cause
numbers_in (kinds.One a) fields = do
  n ← one_in fields
  x ← kind_of a n
  Ok (record { first = x; second = 0; third = 0 })
numbers_in (kinds.Two a b) fields = do
  n ← two_in fields
  x ← kind_of a n.0
  y ← kind_of b n.1
  Ok (record { first = x; second = y; third = 0 })
numbers_in (kinds.Three a b c) fields = do
  n ← three_in fields
  x ← kind_of a n.0
  y ← kind_of b n.1
  z ← kind_of c n.2
  Ok (record { first = x; second = y; third = z })

-- the operation of a maker that a line in a lane says in a text of this version
unfoldable pub op_by : Version → Option Maker → List (List ℕ) → Result Op Cause
op_by version None fields = Err UnknownOp
op_by version (Some maker) fields =
    if is_since (written_by maker).since version
    then (numbers_in (written_by maker).kinds fields >>= λ n. Ok (made_by maker n))
    else Err UnknownOp

-- the operation that a line in a lane says in a text of this version: its word is one letter
unfoldable pub op_of : Version → List ℕ → List (List ℕ) → Result Op Cause
op_of version [] fields = Err UnknownOp
op_of version (letter ∷ []) fields = op_by version (maker_of letter) fields
op_of version (letter ∷ next ∷ more) fields = Err UnknownOp

-- the order run that an order line says, where there are so many lanes
unfoldable pub order_in : ℕ → List (List ℕ) → Result OrderRun Cause
order_in lanes fields = do
  n ← two_in fields
  steps ← ranged OutOfRange 1 ORDER_MOST n.1
  if nat_lt n.0 lanes then Ok (record { lane = n.0; steps = steps }) else Err OutOfRange

-- the lanes with one operation more in the last one
abbrev pub last_with : Op → List (List Op) → List (List Op)
last_with op [] = []
last_with op (last ∷ []) = (last ++ op ∷ []) ∷ []
last_with op (lane ∷ next ∷ more) = lane ∷ last_with op (next ∷ more)

-- the trace with one lane more, which is one caller more where it is not the first
abbrev pub with_lane : Trace → Trace
with_lane trace = record trace {
  heap = record trace.heap { callers = callers_of (trace.lanes ++ [] ∷ []) };
  lanes = trace.lanes ++ [] ∷ [];
}

-- the trace with one operation more in its last lane
abbrev pub with_op : Trace → Op → Trace
with_op trace op = record trace { lanes = last_with op trace.lanes }

-- the trace with one order run more
abbrev pub with_order : Trace → OrderRun → Trace
with_order trace run = record trace { orders = trace.orders ++ run ∷ [] }

-- no order line has come
abbrev pub is_unordered : Trace → Bool
is_unordered trace = length trace.orders == 0

-- a line `lane`, which no order line precedes
unfoldable pub after_lane : Trace → List (List ℕ) → Result ReadingStage Cause
after_lane trace fields =
    if is_unordered trace
    then (none_in fields >>= λ _. if nat_lt (length trace.lanes) MAX_LANES then Ok (Inside (with_lane trace)) else Err TooManyLanes)
    else Err UnknownOp

-- an order line
unfoldable pub after_order : Trace → List (List ℕ) → Result ReadingStage Cause
after_order trace fields = do
  run ← order_in (length trace.lanes) fields
  Ok (Inside (with_order trace run))

-- the line `end`
unfoldable pub after_end : Trace → List (List ℕ) → Result ReadingStage Cause
after_end trace fields = none_in fields >>= λ _. Ok (Ended trace)

-- an operation, which stands in a lane: a line `lane` and no order line precede it
unfoldable pub after_op : Trace → List ℕ → List (List ℕ) → Result ReadingStage Cause
after_op trace word fields =
    if nat_lt 0 (length trace.lanes) && is_unordered trace
    then (op_of trace.version word fields >>= λ op. Ok (Inside (with_op trace op)))
    else Err UnknownOp

-- a line between the heap line and `end`, by its word and the fields behind it
unfoldable pub after_inner : Trace → List ℕ → List (List ℕ) → Result ReadingStage Cause
after_inner trace word fields =
    if bytes_eq word (codes "lane") then after_lane trace fields
    else (if bytes_eq word (codes "order") then after_order trace fields
    else (if bytes_eq word (codes "end") then after_end trace fields
    else after_op trace word fields))

-- the first line that is not passed over is the heap line, of one of the versions up to the known one
unfoldable pub after_first : Version → List ℕ → List (List ℕ) → Result ReadingStage Cause
after_first known word fields = do
  version ← version_in known word
  trace ← heap_in version fields
  Ok (Inside trace)

-- a line with a word, at its place: before the heap line, behind it, or behind `end`
unfoldable pub after_word : Version → ReadingStage → List ℕ → List (List ℕ) → Result ReadingStage Cause
after_word known Before word fields = after_first known word fields
after_word known (Inside trace) word fields = after_inner trace word fields
after_word known (Ended trace) word fields = Err UnknownOp

-- a line of these fields: one without a field, and a comment, are passed over
unfoldable pub after_fields : Version → ReadingStage → List (List ℕ) → Result ReadingStage Cause
after_fields known stage [] = Ok stage
after_fields known stage (word ∷ fields) = if is_comment word then Ok stage else after_word known stage word fields

-- a line, whose bytes are tested first
unfoldable pub after_line : Version → ReadingStage → List ℕ → Result ReadingStage Cause
after_line known stage line = if list_all is_plain line then after_fields known stage (fields_of line) else Err NotAscii
