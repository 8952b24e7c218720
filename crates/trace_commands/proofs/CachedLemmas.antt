-- The runs of traces whose lanes go through caches.
use Rattle.std.proofs.Common.{ℕ, ◌≡◌, ◌<◌, ◌++◌, List, [], Some, Contains, length, refl, ap, ◌∙◌, subst}
use Rattle.std.specs.Prelude.{sum}
use Rattle.std.specs.List.{slice_index_or}
use Rattle.heap_geometry.specs.declared.geometry.Geometry.{Geometry}
use Rattle.pool_model.specs.declared.event.Event.{Event}
use Rattle.pool_model.specs.Legal.{IsLegal}
use Rattle.pool_model.specs.Pool.{live_words, pool_of}
use Rattle.trace_text.specs.declared.trace.Trace.{Trace}
use Rattle.trace_text.specs.Traces.{IsTrace}
use Rattle.step_machine.specs.Cores.{errand_at}
use Rattle.step_machine.proofs.CoreLemmas.{core-sound}
use Rattle.live_heap.specs.Endings.{ClosedFields, machine_of}
use Rattle.lane_outcomes.specs.declared.outcome.Outcome.{Outcome}
use Rattle.lane_outcomes.specs.declared.outcome.Outcome.TheVariants.{Spent}
use Rattle.lane_outcomes.specs.Fits.{OutcomesFit}
use Rattle.lane_outcomes.specs.Passed.{AllPassed}
use Rattle.lane_outcomes.specs.Report.{report_of, report_with}
use Rattle.lane_outcomes.specs.Cached.{CachedOutcomesFit}
use Rattle.live_heap.specs.Heaps.{HeapFields}
use Rattle.live_heap.specs.declared.pass.Pass.{Pass}
use Rattle.lane_runner.specs.Passes.{HaveRun}
use Rattle.lane_runner.specs.Shared.{IsSharedThrough}
use Rattle.lane_runner.specs.Threads.{HaveRunThrough}
use Rattle.roomy_traces.specs.Serial.{serial_report_of}
use Rattle.roomy_traces.specs.Through.{serial_hits}
use Rattle.roomy_traces.proofs.through_lemmas.ReportLemmas.{one-report_through}
use Rattle.roomy_traces.proofs.through_lemmas.SerialLemmas.{hits-serial_through}
use Rattle.trace_commands.specs.Answers.{IsCachedRun, IsCacheTold, IsRun, hits_line}
use Rattle.trace_commands.specs.Closings.{IsSharedIn, lost_by_threads}
use Rattle.trace_commands.specs.declared.closing.Closing.TheVariants.{Ran}

-- what lanes through caches leave of their heap
pub cached-run :
    (passed : ℕ → ℕ → Type 0) (trace : Trace) (depth : ℕ) (closed : ClosedFields) (outcomes : List (List Outcome)) (hits : List ℕ)
    → IsSharedThrough trace depth closed outcomes hits
    → CachedOutcomesFit trace.heap closed.events (lost_by_threads closed) depth trace.lanes outcomes (sum hits)
    → ((lane : ℕ) → lane < length trace.lanes → Contains (slice_index_or outcomes lane []) Spent
    → (errand_at closed.errands lane).turns ≡ trace.heap.turn_limit)
    → AllPassed passed trace.lanes → IsCachedRun passed trace depth hits (Ran closed) outcomes
cached-run passed trace depth closed outcomes hits shared fit spent all_passed =
    let same = shared.closed.heap ∙ shared.laid in
    record {
      heap = same;
      fit = fit;
      legal =
          let P : Geometry → Type 0 = λ g. IsLegal g closed.events in
          subst P same (core-sound (machine_of closed shared.rests.steps) shared.rests.core).legal;
      spent = spent;
      all_passed = all_passed;
      kept_so = shared;
    }

-- lanes through caches of depth 0 have run on the heap itself
pub plain-run :
    (passed : ℕ → ℕ → Type 0) (trace : Trace) (closed : ClosedFields) (outcomes : List (List Outcome)) (hits : List ℕ)
    → ((h : HeapFields) (passes : List Pass) → HaveRunThrough trace h 0 passes outcomes hits → HaveRun trace h passes outcomes)
    → ((history : List Event) (lost : ℕ) → CachedOutcomesFit trace.heap history lost 0 trace.lanes outcomes (sum hits)
    → OutcomesFit trace.heap history lost trace.lanes outcomes)
    → IsCachedRun passed trace 0 hits (Ran closed) outcomes → IsRun passed trace (IsSharedIn trace) (Ran closed) outcomes
plain-run passed trace closed outcomes hits bare fits run =
    let shared = run.kept_so in
    record {
      heap = run.heap;
      fit = fits closed.events (lost_by_threads closed) run.fit;
      legal = run.legal;
      spent = run.spent;
      all_passed = run.all_passed;
      kept_so =
          record {
            rests = shared.rests;
            heap = shared.heap;
            laid = shared.laid;
            passes = shared.passes;
            ran = bare shared.heap shared.passes shared.ran;
            closed = shared.closed;
            accesses = shared.accesses;
          };
    }

-- the report with what was counted is that of the history whose pool has so many blocks
pub report-counted :
    (trace : Trace) (outcomes : List (List Outcome)) (history : List Event) (live words : ℕ) (text : List ℕ)
    → live ≡ length (pool_of history) → words ≡ live_words (pool_of history) → text ≡ report_with trace outcomes live words
    → text ≡ report_of trace outcomes history
report-counted trace outcomes history live words text live_is words_is is =
    is ∙ ap (λ n. report_with trace outcomes n words) live_is ∙ ap (λ n. report_with trace outcomes (length (pool_of history)) n) words_is

-- what `cache` tells
pub cache-told :
    (passed : ℕ → ℕ → Type 0) (trace : Trace) (depth : ℕ) (closed : ClosedFields) (outcomes : List (List Outcome)) (hits : List ℕ)
    (told lines text : List ℕ)
    → IsTrace trace → IsCachedRun passed trace depth hits (Ran closed) outcomes
    → ((history : List Event) (lost depth hits : ℕ) → IsLegal trace.heap history → CachedOutcomesFit trace.heap history lost depth trace.lanes outcomes hits
    → told ≡ report_of trace outcomes history)
    → lines ≡ hits_line (sum hits) → text ≡ told ++ lines → IsCacheTold passed trace depth (Some (Ran closed)) text
cache-told passed trace depth closed outcomes hits told lines text named run reports lines_are text_is =
    let lost : ℕ = lost_by_threads closed in
    let is = reports closed.events lost depth (sum hits) run.legal run.fit in
    let behind : (report more : List ℕ) → told ≡ report → lines ≡ more → text ≡ report ++ more =
    λ report more same same_lines. text_is ∙ (ap (λ (l : List ℕ). l ++ lines) same ∙ ap (λ (l : List ℕ). report ++ l) same_lines) in
    record {
      outcomes = outcomes;
      hits = hits;
      closing = Ran closed;
      closed_is = refl;
      run = run;
      text_is = behind (report_of trace outcomes closed.events) (hits_line (sum hits)) is lines_are;
      roomy =
          λ roomy. behind (serial_report_of trace) (hits_line (serial_hits depth trace.lanes))
          (is ∙ one-report_through trace closed.events lost depth outcomes (sum hits) named roomy run.legal run.fit)
          (lines_are ∙ ap hits_line (hits-serial_through trace closed.events lost depth outcomes (sum hits) named roomy run.legal run.fit));
    }
