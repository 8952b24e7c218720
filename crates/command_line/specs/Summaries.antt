-- What is told of a workload.
use Rattle.std.specs.Prelude.{ℕ, ◌∷◌, ◌++◌, List, [], codes, length, map}
use Rattle.std.specs.Fmt.{decimal}
use Rattle.pool_model.specs.declared.event.Event.{Event}
use Rattle.pool_model.specs.Pool.{pool_of, live_words}
use Rattle.trace_text.specs.Text.{line}
use Rattle.trace_text.specs.declared.trace.Op.{Op}
use Rattle.trace_text.specs.declared.trace.Trace.{Trace}
use Rattle.lane_outcomes.specs.declared.outcome.Outcome.{Outcome}
use Rattle.lane_outcomes.specs.LaneCounts.{as_one, as_words}
use Rattle.roomy_traces.specs.Serial.{left_by, serial_outcomes}
use Rattle.workloads.specs.Made.{made}
use Rattle.command_line.specs.Command.{workload_words}
use Rattle.command_line.specs.Tallies.{all_of, tally_of}
use Rattle.command_line.specs.declared.command.Workload.{Workload}
use Rattle.command_line.specs.declared.tally.OutcomeTally.{OutcomeTally}

-- the trace of a workload
abbrev pub trace_of : Workload → Trace
trace_of workload = made workload.kind workload.size workload.start

-- the four lines of a tally
abbrev pub counts_text : OutcomeTally → List ℕ
counts_text tally =
    line (codes "given" ∷ decimal tally.given ∷ codes "words" ∷ decimal tally.words ∷ [])
    ++ line (codes "refused" ∷ decimal tally.refused ∷ codes "spent" ∷ decimal tally.spent ∷ [])
    ++ line (codes "freed" ∷ decimal tally.freed ∷ [])
    ++ line (codes "checked" ∷ decimal tally.summed ∷ [])

-- the seven lines of a workload with these lanes and their outcomes, and these numbers of live blocks and of their
-- usable words
abbrev pub summary_with : Workload → List (List Op) → List (List Outcome) → ℕ → ℕ → List ℕ
summary_with workload lanes outcomes live words =
    line (codes "make" ∷ workload_words workload)
    ++ line (codes "lanes" ∷ decimal (length lanes) ∷ codes "operations" ∷ decimal (length (all_of lanes)) ∷ [])
    ++ counts_text (tally_of (all_of outcomes))
    ++ line (codes "live" ∷ decimal live ∷ codes "words" ∷ decimal words ∷ [])

-- the summary of a workload, its outcomes and the history of the closed heap, whose live blocks are counted
abbrev pub summary_of : Workload → List (List Outcome) → List Event → List ℕ
summary_of workload outcomes history =
    summary_with workload (trace_of workload).lanes outcomes (length (pool_of history)) (live_words (pool_of history))

-- the summary of a workload whose lanes are computed one after the other, each on its own, every allocation being given
abbrev pub serial_summary_of : Workload → List ℕ
serial_summary_of workload =
    let lanes = (trace_of workload).lanes in
    summary_with workload lanes (map serial_outcomes lanes) (left_by as_one lanes) (left_by as_words lanes)
