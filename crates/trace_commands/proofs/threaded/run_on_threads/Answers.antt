use Rattle.std.proofs.Common.{map}
use Rattle.std.proofs.lemmas.Result.{IfOk-weaker}
use Rattle.trace_commands.proofs.CachedLemmas.{plain-run}
use Rattle.trace_commands.proofs.threaded.run_on_threads.Goals as goal

pub returns : goal.returns
returns g c =
    let trace = c.args.trace.now in
    IfOk-weaker c.run_through_caches.result _ _
    (λ run ran.
    plain-run (g.G.Gate.passed c.args.gate.now) trace run.closed (map (λ lane. lane.items) run.outcomes.items) run.hits.items
    (λ h passes ran_through. (c.lanes_without_magazines_run_on_passes.ensures trace h passes _ _ c.requires ran_through).0)
    (λ history lost fit. (c.caches_without_room_are_none.ensures.lanes trace.heap history lost trace.lanes _ _ fit).0) ran) c.run_through_caches.ensures
