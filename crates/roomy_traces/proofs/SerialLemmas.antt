-- A lane without a cache is one through a cache without room: so what holds of traces that are roomy through caches holds of roomy ones.
use Rattle.std.proofs.Common.{ℕ, ◌≡◌, ◌*◌, List, length, map, arith}
use Rattle.heap_geometry.specs.declared.limits.TheConstants.{CLASSES}
use Rattle.pool_model.specs.declared.event.Event.{Event}
use Rattle.pool_model.specs.Legal.{IsLegal}
use Rattle.pool_model.specs.Pool.{live_words, pool_of}
use Rattle.trace_text.specs.Traces.{IsTrace}
use Rattle.trace_text.specs.declared.trace.Trace.{Trace}
use Rattle.lane_outcomes.specs.declared.outcome.Outcome.{Outcome}
use Rattle.lane_outcomes.specs.Fits.{OutcomesFit}
use Rattle.lane_outcomes.specs.LaneCounts.{as_one, as_words}
use Rattle.lane_outcomes.specs.Report.{report_of}
use Rattle.lane_outcomes.proofs.RoomLemmas.{outcomes-room}
use Rattle.roomy_traces.specs.Roomy.{IsRoomy}
use Rattle.roomy_traces.specs.Serial.{left_by, serial_outcomes, serial_report_of, without_place}
use Rattle.roomy_traces.specs.Through.{IsRoomyThrough}
use Rattle.roomy_traces.proofs.through_lemmas.ReportLemmas.{live-left_through, one-report_through}
use Rattle.roomy_traces.proofs.through_lemmas.RoomLemmas.{roomy-through}
use Rattle.roomy_traces.proofs.through_lemmas.SerialLemmas.{outcomes-serial_through}

roomy-bare : (trace : Trace) → IsRoomy trace → IsRoomyThrough 0 trace
roomy-bare trace roomy =
    let none : length trace.lanes * (CLASSES * 0) ≡ 0 = omega arith in
    roomy-through 0 trace roomy (omega (arith, roomy.frames, none))

-- the outcomes of a roomy trace are those of its lanes computed on their own, but for the places
pub outcomes-serial :
    (trace : Trace) (history : List Event) (lost : ℕ) (outcomes : List (List Outcome)) → IsTrace trace → IsRoomy trace
    → IsLegal trace.heap history → OutcomesFit trace.heap history lost trace.lanes outcomes
    → map (map without_place) outcomes ≡ map serial_outcomes trace.lanes
outcomes-serial trace history lost outcomes named roomy legal fit =
    outcomes-serial_through trace history lost 0 outcomes 0 named (roomy-bare trace roomy) legal
    (outcomes-room trace.heap history lost trace.lanes outcomes fit)

-- as many blocks and words are live at the end as the lanes hold there
pub live-left :
    (trace : Trace) (history : List Event) (lost : ℕ) (outcomes : List (List Outcome)) → IsTrace trace → IsRoomy trace
    → IsLegal trace.heap history → OutcomesFit trace.heap history lost trace.lanes outcomes
    → (length (pool_of history) ≡ left_by as_one trace.lanes) × (live_words (pool_of history) ≡ left_by as_words trace.lanes)
live-left trace history lost outcomes named roomy legal fit =
    live-left_through trace history lost 0 outcomes 0 named (roomy-bare trace roomy) legal (outcomes-room trace.heap history lost trace.lanes outcomes fit)

-- the report of a roomy trace is the one computed lane by lane
pub one-report :
    (trace : Trace) (history : List Event) (lost : ℕ) (outcomes : List (List Outcome)) → IsTrace trace → IsRoomy trace
    → IsLegal trace.heap history → OutcomesFit trace.heap history lost trace.lanes outcomes
    → report_of trace outcomes history ≡ serial_report_of trace
one-report trace history lost outcomes named roomy legal fit =
    one-report_through trace history lost 0 outcomes 0 named (roomy-bare trace roomy) legal (outcomes-room trace.heap history lost trace.lanes outcomes fit)
