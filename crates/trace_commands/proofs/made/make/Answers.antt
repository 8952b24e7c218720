use Rattle.std.proofs.Common.{map, arith}
use Rattle.std.proofs.lemmas.List.{length-map}
use Rattle.roomy_traces.proofs.generated_lemmas.RoomyLemmas.{made-roomy}
use Rattle.trace_commands.proofs.DrivenLemmas.{few-outcomes, make-told}
use Rattle.trace_commands.proofs.made.make.Goals as goal

pub summary-requires-clause-outcomes : goal.summary-requires-clause-outcomes
summary-requires-clause-outcomes g c =
    let outcomes = c.in_ok-closed.field-0.outcomes.items in
    let few =
    few-outcomes (g.G.Gate.passed c.args.gate.now) c.in_ok-trace.trace c.in_ok-closed.field-0.closed (map (λ lane. lane.items) outcomes)
    c.in_ok-trace.ensures.grammar c.in_ok-closed.ensures
    in
    rw c.as_slice-outcomes.ensures.value (omega (arith, few, length-map outcomes (λ lane. lane.items)))

pub returns : goal.returns
returns g c =
    let told =
    make-told (g.G.Gate.passed c.args.gate.now) c.args.workload c.in_ok-trace.trace c.in_ok-closed.field-0.closed
    (map (λ lane. lane.items) c.in_ok-closed.field-0.outcomes.items) c.live_count-live.result.0 c.live_count-live.result.1 c.in_ok-text.text.items
    c.in_ok-trace.ensures.made c.in_ok-trace.ensures.grammar c.in_ok-closed.ensures
    (rw c.as_slice-outcomes.ensures.value at c.live_count-live.ensures.live)
    (rw c.as_slice-outcomes.ensures.value at c.in_ok-text.ensures)
    in (
      told,
      λ not_pipeline. told.roomy (made-roomy c.args.workload.kind c.args.workload.size c.args.workload.start c.requires.0 not_pipeline),
    )
