-- The report of a trace that is roomy through caches is the one that is computed lane by lane.
use Rattle.std.proofs.Common.{ℕ, get_or, ◌≡◌, ◌<◌, List, [], length, sym, ◌∙◌, arith}
use Rattle.pool_model.specs.declared.event.Event.{Event}
use Rattle.pool_model.specs.Pool.{pool_of, live_words}
use Rattle.pool_model.specs.Legal.{IsLegal}
use Rattle.pool_model.proofs.HistoryLemmas.{legal-weaker}
use Rattle.trace_text.specs.declared.limits.TheConstants.{REGISTERS}
use Rattle.trace_text.specs.Traces.{IsTrace}
use Rattle.trace_text.specs.declared.trace.Trace.{Trace}
use Rattle.lane_outcomes.specs.declared.outcome.Outcome.{Outcome}
use Rattle.lane_outcomes.specs.Cached.{CachedOutcomesFit}
use Rattle.lane_outcomes.specs.LaneCounts.{as_one, as_words}
use Rattle.lane_outcomes.specs.Report.{report_of}
use Rattle.lane_outcomes.proofs.MeasureLemmas.{measure, measure-blocks, measure-words}
use Rattle.roomy_traces.specs.Serial.{left_by, serial_report_of}
use Rattle.roomy_traces.specs.Through.{IsRoomyThrough}
use Rattle.roomy_traces.proofs.RegisterLemmas.{alike-count}
use Rattle.roomy_traces.proofs.ReportLemmas.{IsEven, lanes-even, nothing-counts, report-serial}
use Rattle.roomy_traces.proofs.through_lemmas.SerialLemmas.{lane-serial_through, outcomes-serial_through}
use Rattle.roomy_traces.proofs.through_lemmas.UnspentLemmas.{cached-many}
use Rattle.lane_outcomes.proofs.LanesLemmas.{cached-lane}
use Rattle.lane_outcomes.proofs.CountLemmas.{cached-total}

module _ (trace : Trace) (history : List Event) (lost depth : ℕ) (outcomes : List (List Outcome)) (hits : ℕ) (named : IsTrace trace)
    (roomy : IsRoomyThrough depth trace) (legal : IsLegal trace.heap history)
    (fit : CachedOutcomesFit trace.heap history lost depth trace.lanes outcomes hits) where
  lane-even : (f : ℕ → ℕ) (k : ℕ) → k < length trace.lanes → IsEven f (get_or trace.lanes k []) (get_or outcomes k [])
  lane-even f k below =
      let fits = cached-lane trace.heap history lost depth trace.lanes outcomes hits fit.lanes_fit k below in
      let serial = lane-serial_through trace history lost depth outcomes hits named roomy legal fit k fits.0 below fits.1 in
      omega (arith, serial.balance f, nothing-counts f REGISTERS, alike-count f _ _ serial.alike)

  -- what is live at the end is what the lanes hold there
  left-live : (f : ℕ → ℕ) → measure f (pool_of history) ≡ left_by f trace.lanes
  left-live f =
      let weaker = legal-weaker trace.heap history legal in
      omega (
        arith,
        cached-total f trace.heap history lost depth trace.lanes outcomes hits weaker fit,
        lanes-even f trace.lanes outcomes (cached-many trace.heap history lost depth 0 trace.lanes outcomes hits fit.lanes_fit) (lane-even f),
      )

  -- as many blocks and words are live at the end as the lanes hold there
  pub live-left_through : (length (pool_of history) ≡ left_by as_one trace.lanes) × (live_words (pool_of history) ≡ left_by as_words trace.lanes)
  live-left_through = (
    sym (measure-blocks (pool_of history)) ∙ left-live as_one,
    sym (measure-words (pool_of history)) ∙ left-live as_words,
  )

  pub one-report_through : report_of trace outcomes history ≡ serial_report_of trace
  one-report_through =
      report-serial trace outcomes history (outcomes-serial_through trace history lost depth outcomes hits named roomy legal fit) live-left_through.0
      live-left_through.1
