-- The runs of traces, on a machine and on threads.
use Rattle.std.proofs.Common.{ℕ, ◌≡◌, ◌≤◌, ◌++◌, List, Some, length, map, refl, ap, ◌∙◌, subst, arith}
use Rattle.heap_geometry.specs.declared.geometry.Geometry.{Geometry}
use Rattle.pool_model.specs.declared.event.Event.{Event}
use Rattle.pool_model.specs.Legal.{IsLegal, IsLegalWithoutCounts}
use Rattle.pool_model.specs.Pool.{live_words, pool_of}
use Rattle.pool_model.proofs.HistoryLemmas.{legal-weaker}
use Rattle.trace_text.specs.declared.limits.TheConstants.{MAX_LANES}
use Rattle.trace_text.specs.declared.trace.Trace.{Trace}
use Rattle.trace_text.specs.Traces.{IsTrace}
use Rattle.step_machine.specs.Cores.{CoreFields, IsCore}
use Rattle.step_machine.proofs.CoreLemmas.{core-sound}
use Rattle.lane_outcomes.specs.declared.outcome.Outcome.{Outcome}
use Rattle.lane_outcomes.specs.Fits.{OutcomesFit}
use Rattle.lane_outcomes.specs.Passed.{AllPassed}
use Rattle.lane_outcomes.specs.Report.{report_of}
use Rattle.lane_outcomes.proofs.LanesLemmas.{lanes-many}
use Rattle.lane_runner.specs.Driven.{IsDriven}
use Rattle.lane_runner.proofs.ClosedFits.{driven-taken}
use Rattle.live_heap.specs.Endings.{ClosedFields}
use Rattle.lane_outcomes.specs.LaneCounts.{as_one}
use Rattle.roomy_traces.specs.Serial.{left_by, serial_outcomes, serial_report_of}
use Rattle.roomy_traces.proofs.SerialLemmas.{live-left, one-report, outcomes-serial}
use Rattle.trace_commands.specs.Answers.{IsRun, IsTold, make_text, replay_text, serial_make, serial_replay}
use Rattle.command_line.specs.Summaries.{summary_with, trace_of}
use Rattle.trace_commands.specs.Closings.{IsDrivenIn, IsSharedIn, history_of, lost_by_threads, lost_of}
use Rattle.trace_commands.specs.declared.closing.Closing.{Closing}
use Rattle.trace_commands.specs.declared.closing.Closing.TheVariants.{Ran, Stepped}
use Rattle.command_line.specs.declared.command.Workload.{Workload}
use Rattle.trace_commands.proofs.SerialLemmas.{summaries-same}

-- what a machine that was driven leaves
pub run-of :
    (passed : ℕ → ℕ → Type 0) (trace : Trace) (core : CoreFields) (outcomes : List (List Outcome))
    → IsCore core → IsDriven trace trace.orders core outcomes → AllPassed passed trace.lanes
    → IsRun passed trace (IsDrivenIn trace trace.orders) (Stepped core) outcomes
run-of passed trace core outcomes is_core driven all_passed =
    record {
      heap = driven.so_far.geometry;
      fit = driven.fit;
      legal = let P : Geometry → Type 0 = λ g. IsLegal g core.events in subst P driven.so_far.geometry (core-sound core is_core).legal;
      spent = λ lane lt told. driven-taken trace trace.orders core outcomes lane driven lt told;
      all_passed = all_passed;
      kept_so = driven;
    }

-- what `replay` tells
pub replay-told :
    (passed : ℕ → ℕ → Type 0) (trace : Trace) (closed : ClosedFields) (outcomes : List (List Outcome)) (text : List ℕ)
    → IsTrace trace → IsRun passed trace (IsSharedIn trace) (Ran closed) outcomes
    → ((history : List Event) (lost : ℕ) → IsLegal trace.heap history → OutcomesFit trace.heap history lost trace.lanes outcomes
    → text ≡ report_of trace outcomes history)
    → IsTold passed trace (IsSharedIn trace) (replay_text trace) (serial_replay trace) (Some (Ran closed)) text
replay-told passed trace closed outcomes text named run reports =
    let told = reports closed.events (lost_by_threads closed) run.legal run.fit in
    record {
      outcomes = outcomes;
      closing = Ran closed;
      closed_is = refl;
      run = run;
      text_is = told;
      roomy = λ roomy. told ∙ one-report trace closed.events (lost_by_threads closed) outcomes named roomy run.legal run.fit;
    }

-- what `schedule` and `census` tell: a report, and more lines behind it
pub told-behind :
    (passed : ℕ → ℕ → Type 0) (trace : Trace) (kept : Closing → List (List Outcome) → Type 0) (closing : Closing) (outcomes : List (List Outcome))
    (more : Closing → List ℕ) (told lines text : List ℕ)
    → IsTrace trace → IsRun passed trace kept closing outcomes
    → ((history : List Event) (lost : ℕ) → IsLegal trace.heap history → OutcomesFit trace.heap history lost trace.lanes outcomes
    → told ≡ report_of trace outcomes history)
    → lines ≡ more closing → text ≡ told ++ lines
    → IsTold passed trace kept (λ outcomes closing. report_of trace outcomes (history_of closing) ++ more closing)
    (λ closing. serial_report_of trace ++ more closing) (Some closing) text
told-behind passed trace kept closing outcomes more told lines text named run reports lines_are text_is =
    let is = reports (history_of closing) (lost_of closing) run.legal run.fit in
    let behind : (report : List ℕ) → told ≡ report → text ≡ report ++ more closing =
    λ report same. text_is ∙ (ap (λ (l : List ℕ). l ++ lines) same ∙ ap (λ (l : List ℕ). report ++ l) lines_are) in
    record {
      outcomes = outcomes;
      closing = closing;
      closed_is = refl;
      run = run;
      text_is = behind (report_of trace outcomes (history_of closing)) is;
      roomy =
          λ roomy. behind (serial_report_of trace)
          (is ∙ one-report trace (history_of closing) (lost_of closing) outcomes named roomy run.legal run.fit);
    }

-- a trace has few lanes, and lanes have as many lists of outcomes
pub few-outcomes :
    (passed : ℕ → ℕ → Type 0) (trace : Trace) (closed : ClosedFields) (outcomes : List (List Outcome))
    → IsTrace trace → IsRun passed trace (IsSharedIn trace) (Ran closed) outcomes → length outcomes ≤ MAX_LANES
few-outcomes passed trace closed outcomes named run =
    omega (arith, named.few_lanes, lanes-many trace.heap closed.events (lost_by_threads closed) 0 trace.lanes outcomes run.fit.lanes_fit)

-- what `make` tells
pub make-told :
    (passed : ℕ → ℕ → Type 0) (workload : Workload) (trace : Trace) (closed : ClosedFields) (outcomes : List (List Outcome)) (live words : ℕ)
    (text : List ℕ) → trace ≡ trace_of workload → IsTrace trace → IsRun passed trace (IsSharedIn trace) (Ran closed) outcomes
    → ((history : List Event) (lost : ℕ) → IsTrace trace → IsLegalWithoutCounts trace.heap history
    → OutcomesFit trace.heap history lost trace.lanes outcomes
    → (live ≡ length (pool_of history)) × (words ≡ live_words (pool_of history)))
    → text ≡ summary_with workload trace.lanes outcomes live words
    → IsTold passed (trace_of workload) (IsSharedIn (trace_of workload)) (make_text workload) (serial_make workload) (Some (Ran closed)) text
make-told passed workload trace closed outcomes live words text is named run counts text_is =
    let P : Trace → Type 0 = λ t. IsRun passed t (IsSharedIn t) (Ran closed) outcomes in
    let made = trace_of workload in
    let made_run = subst P is run in
    let made_named = subst IsTrace is named in
    let counted = counts closed.events (lost_by_threads closed) named (legal-weaker trace.heap closed.events run.legal) run.fit in
    let told : text ≡ make_text workload outcomes (Ran closed) =
    text_is
    ∙ ap (λ (t : Trace). summary_with workload t.lanes outcomes live words) is
    ∙ ap (λ n. summary_with workload made.lanes outcomes n words) counted.0
    ∙ ap (λ n. summary_with workload made.lanes outcomes (length (pool_of closed.events)) n) counted.1
    in
    record {
      outcomes = outcomes;
      closing = Ran closed;
      closed_is = refl;
      run = made_run;
      text_is = told;
      roomy =
          λ roomy. told
          ∙ (summaries-same workload made.lanes outcomes (map serial_outcomes made.lanes) (length (pool_of closed.events)) (live_words (pool_of closed.events))
          (outcomes-serial made closed.events (lost_by_threads closed) outcomes made_named roomy made_run.legal made_run.fit)
          ∙ (ap (λ n. summary_with workload made.lanes (map serial_outcomes made.lanes) n (live_words (pool_of closed.events)))
          (live-left made closed.events (lost_by_threads closed) outcomes made_named roomy made_run.legal made_run.fit).0
          ∙ ap (λ n. summary_with workload made.lanes (map serial_outcomes made.lanes) (left_by as_one made.lanes) n)
          (live-left made closed.events (lost_by_threads closed) outcomes made_named roomy made_run.legal made_run.fit).1));
    }
