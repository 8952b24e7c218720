-- What the program answers to a command and its input.
use Rattle.std.specs.Prelude.{ℕ, ◌≡◌, ◌≢◌, ◌<◌, ◌⊎◌, ◌∷◌, ◌++◌, List, [], Option, None, Some, true, codes, length, sum, Contains}
use Rattle.std.specs.List.{slice_index_or}
use Rattle.std.specs.Fmt.{decimal}
use Rattle.pool_model.specs.declared.event.Event.{Event}
use Rattle.pool_model.specs.Legal.{IsLegal}
use Rattle.trace_text.specs.declared.trace.Trace.{Trace}
use Rattle.trace_text.specs.Reading.{IsRefused, Read, reading_of}
use Rattle.trace_text.specs.Text.{canonical_of, line}
use Rattle.lane_outcomes.specs.declared.outcome.Outcome.{Outcome}
use Rattle.lane_outcomes.specs.declared.outcome.Outcome.TheVariants.{Spent}
use Rattle.lane_outcomes.specs.Fits.{OutcomesFit}
use Rattle.lane_outcomes.specs.Passed.{AllPassed}
use Rattle.lane_outcomes.specs.Report.{report_of}
use Rattle.lane_outcomes.specs.Cached.{CachedOutcomesFit}
use Rattle.roomy_traces.specs.Roomy.{IsRoomy}
use Rattle.roomy_traces.specs.Serial.{serial_report_of}
use Rattle.roomy_traces.specs.Through.{IsRoomyThrough, serial_hits}
use Rattle.heap_census.specs.declared.census.Census.{Census as Counts}
use Rattle.workloads.specs.declared.kind.Kind.TheVariants.{Pipeline}
use Rattle.trace_commands.specs.Censuses.{IsCensusOf, census_text}
use Rattle.trace_commands.specs.Closings.{IsDrivenIn, IsSharedIn, IsSharedThroughIn, geometry_of, history_of, lost_of, steps_of, turns_of}
use Rattle.command_line.specs.Command.{has_input}
use Rattle.command_line.specs.Summaries.{serial_summary_of, summary_of, trace_of}
use Rattle.trace_commands.specs.Pipes.{IsPiped}
use Rattle.trace_commands.specs.Stored.{IsStoreTold}
use Rattle.trace_commands.specs.declared.closing.Closing.{Closing}
use Rattle.command_line.specs.declared.command.Command.{Command}
use Rattle.command_line.specs.declared.command.Command.TheVariants.{Replay, Schedule, Census, Make, Print, Pipe, Store, Cache}
use Rattle.command_line.specs.declared.command.Workload.{Workload}
use Rattle.command_line.specs.declared.status.TheConstants.{REPORTED, REFUSED}

-- the lanes of a trace ran to their ends on this heap, which is the one that the trace asks for: by this rule each lane's
-- outcomes fit its operations and the one history of the heap, which is legal; a lane that was told to have no turn left has
-- itself taken as many as the limit; each operation passed the gate; and the heap was kept so, by a machine that made the steps
-- in an order, or by threads
pub record IsRunBy (fits : List Event → ℕ → List (List Outcome) → Type 0) (passed : ℕ → ℕ → Type 0) (trace : Trace) (kept : Closing → List (List Outcome) → Type 0) (closing : Closing) (outcomes : List (List Outcome)) : Type 0 where
  pub heap : geometry_of closing ≡ trace.heap
  pub fit : fits (history_of closing) (lost_of closing) outcomes
  pub legal : IsLegal trace.heap (history_of closing)
  pub spent :
      (lane : ℕ) → lane < length trace.lanes → Contains (slice_index_or outcomes lane []) Spent → turns_of closing lane ≡ trace.heap.turn_limit
  pub all_passed : AllPassed passed trace.lanes
  pub kept_so : kept closing outcomes

-- the lanes ran on the heap itself, or each through a cache of its own of this depth, which served so many of its allocations
abbrev pub IsRun : (ℕ → ℕ → Type 0) → Trace → (Closing → List (List Outcome) → Type 0) → Closing → List (List Outcome) → Type 0
IsRun passed trace = IsRunBy (λ history lost outcomes. OutcomesFit trace.heap history lost trace.lanes outcomes) passed trace

abbrev pub IsCachedRun : (ℕ → ℕ → Type 0) → Trace → ℕ → List ℕ → Closing → List (List Outcome) → Type 0
IsCachedRun passed trace depth hits =
    IsRunBy (λ history lost outcomes. CachedOutcomesFit trace.heap history lost depth trace.lanes outcomes (sum hits)) passed trace
    (IsSharedThroughIn trace depth hits)

-- a trace was run, and the text tells this of its outcomes and of the heap that it left; where the trace is roomy, the text is
-- the one that is computed lane by lane, whatever the order of the steps was
pub record IsTold (passed : ℕ → ℕ → Type 0) (trace : Trace) (kept : Closing → List (List Outcome) → Type 0) (told : List (List Outcome) → Closing → List ℕ) (serial : Closing → List ℕ) (closed : Option Closing) (text : List ℕ) : Type 0 where
  pub outcomes : List (List Outcome)
  pub closing : Closing
  pub closed_is : closed ≡ Some closing
  pub run : IsRun passed trace kept closing outcomes
  pub text_is : text ≡ told outcomes closing
  pub roomy : IsRoomy trace → text ≡ serial closing

-- what `replay` tells of a run, what `schedule` and `census` add to it, and what `make` tells
abbrev pub replay_text : Trace → List (List Outcome) → Closing → List ℕ
replay_text trace outcomes closing = report_of trace outcomes (history_of closing)

abbrev pub schedule_text : Trace → List (List Outcome) → Closing → List ℕ
schedule_text trace outcomes closing = report_of trace outcomes (history_of closing) ++ steps_of closing

abbrev pub counted_text : Trace → Counts → List (List Outcome) → Closing → List ℕ
counted_text trace counts outcomes closing = report_of trace outcomes (history_of closing) ++ census_text counts

abbrev pub make_text : Workload → List (List Outcome) → Closing → List ℕ
make_text workload outcomes closing = summary_of workload outcomes (history_of closing)

-- the texts of a roomy trace, lane by lane: the machine's steps and the heap's census are still those of the run
abbrev pub serial_replay : Trace → Closing → List ℕ
serial_replay trace closing = serial_report_of trace

abbrev pub serial_schedule : Trace → Closing → List ℕ
serial_schedule trace closing = serial_report_of trace ++ steps_of closing

abbrev pub serial_counted : Trace → Counts → Closing → List ℕ
serial_counted trace counts closing = serial_report_of trace ++ census_text counts

abbrev pub serial_make : Workload → Closing → List ℕ
serial_make workload closing = serial_summary_of workload

-- the summary of a workload is the one that is computed lane by lane, whatever the order of the steps was; but for the
-- pipeline, whose lanes hand blocks over
abbrev pub HasOneSummary : Workload → List ℕ → Type 0
HasOneSummary workload text = workload.kind ≢ Pipeline → text ≡ serial_summary_of workload

-- the line of how many allocations caches have served, and what `cache` tells: that line behind the report
abbrev pub hits_line : ℕ → List ℕ
hits_line hits = line (codes "hits" ∷ decimal hits ∷ [])

abbrev pub cache_text : Trace → List (List Outcome) → List ℕ → Closing → List ℕ
cache_text trace outcomes hits closing = report_of trace outcomes (history_of closing) ++ hits_line (sum hits)

-- the text of a trace that is roomy through caches of this depth, lane by lane
abbrev pub serial_cache : Trace → ℕ → List ℕ
serial_cache trace depth = serial_report_of trace ++ hits_line (serial_hits depth trace.lanes)

-- a trace was run through caches of this depth, and the text tells this of its outcomes and of what the caches served; where the
-- trace is roomy through them, the text is the one that is computed lane by lane, whatever the order of the steps was
pub record IsCacheTold (passed : ℕ → ℕ → Type 0) (trace : Trace) (depth : ℕ) (closed : Option Closing) (text : List ℕ) : Type 0 where
  pub outcomes : List (List Outcome)
  pub hits : List ℕ
  pub closing : Closing
  pub closed_is : closed ≡ Some closing
  pub run : IsCachedRun passed trace depth hits closing outcomes
  pub text_is : text ≡ cache_text trace outcomes hits closing
  pub roomy : IsRoomyThrough depth trace → text ≡ serial_cache trace depth

-- what each command writes where nothing is refused: `replay` runs the trace that the bytes are read as on threads,
-- `schedule` on a machine in the order of its order runs, `census` on threads and counts the closed heap, `cache` on threads
-- through caches, and `make` the trace of its workload on threads; `print` runs none; `pipe` runs a pipeline on threads, and
-- `store` the script of a store on a heap of one caller
abbrev pub IsReport : (ℕ → ℕ → Type 0) → Command → List ℕ → Option Closing → List ℕ → Type 0
IsReport passed Replay bytes closed text =
    (trace : Trace) × (reading_of bytes ≡ Read trace) × IsTold passed trace (IsSharedIn trace) (replay_text trace) (serial_replay trace) closed text
IsReport passed Schedule bytes closed text =
    (trace : Trace) × (reading_of bytes ≡ Read trace)
    × IsTold passed trace (IsDrivenIn trace trace.orders) (schedule_text trace) (serial_schedule trace) closed text
IsReport passed Census bytes closed text =
    (trace : Trace) × (reading_of bytes ≡ Read trace) × (counts : Counts) × IsCensusOf closed counts
    × IsTold passed trace (IsSharedIn trace) (counted_text trace counts) (serial_counted trace counts) closed text
IsReport passed (Make workload) bytes closed text =
    IsTold passed (trace_of workload) (IsSharedIn (trace_of workload)) (make_text workload) (serial_make workload) closed text × HasOneSummary workload text
IsReport passed (Print workload) bytes closed text = (closed ≡ None) × (text ≡ canonical_of (trace_of workload))
IsReport passed (Pipe piping) bytes closed text = IsPiped passed piping closed text
IsReport passed (Store rounds) bytes closed text = IsStoreTold rounds closed text
IsReport passed (Cache depth) bytes closed text = (trace : Trace) × (reading_of bytes ≡ Read trace) × IsCacheTold passed trace depth closed text

-- the line that tells where a text is refused, and for which cause
abbrev pub refusal_line : ℕ → ℕ → List ℕ
refusal_line number cause = line (codes "line" ∷ decimal number ∷ codes "cause" ∷ decimal cause ∷ [])

-- the bytes that a command took are refused at a line for a cause, no heap was run, and the text tells so
pub record IsRefusal (command : Command) (bytes : List ℕ) (closed : Option Closing) (text : List ℕ) : Type 0 where
  pub takes : has_input command ≡ true
  pub number : ℕ
  pub cause : ℕ
  pub refused : IsRefused number cause (reading_of bytes)
  pub closed_is : closed ≡ None
  pub text_is : text ≡ refusal_line number cause

-- the answer to a command and these bytes: what it writes, or their refusal
abbrev pub IsAnswerTo : (ℕ → ℕ → Type 0) → Command → List ℕ → ℕ → Option Closing → List ℕ → Type 0
IsAnswerTo passed command bytes status closed text =
    ((status ≡ REPORTED) × IsReport passed command bytes closed text)
    ⊎ ((status ≡ REFUSED) × IsRefusal command bytes closed text)
