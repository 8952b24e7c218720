use Rattle.std.proofs.Common.{map, ◌∙◌}
use Rattle.std.proofs.lemmas.Result.{IfOk-weaker}
use Rattle.lane_outcomes.proofs.LiveLemmas.{held-lists}
use Rattle.pool_model.proofs.HistoryLemmas.{legal-weaker}
use Rattle.trace_commands.proofs.CachedLemmas.{report-counted}
use Rattle.trace_commands.proofs.told.report_on.Goals as goal

pub returns-clause-cached : goal.returns-clause-cached
returns-clause-cached c =
    let trace = c.args.trace.now in
    let outcomes = map (λ lane. lane.items) c.args.outcomes.now in
    IfOk-weaker c.report.result _ _
    (λ text is history lost depth hits legal fit.
    let live =
    c.live_blocks_are_counted.ensures trace history lost depth outcomes hits c.requires (held-lists c.args.outcomes.now)
    (legal-weaker trace.heap history legal) fit
    in
    report-counted trace outcomes history c.live_count-live.result.0 c.live_count-live.result.1 text.items (c.live_count-live.ensures.blocks ∙ live.0)
    (c.live_count-live.ensures.words ∙ live.1) is)
    c.report.ensures
