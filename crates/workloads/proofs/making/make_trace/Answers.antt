use Rattle.std.proofs.Common.{sym, subst, ◌∙◌}
use Rattle.trace_text.specs.Traces.{IsTrace}
use Rattle.workloads.specs.Draws.{seeded_by}
use Rattle.workloads.proofs.MadeLemmas.{trace-made}
use Rattle.workloads.proofs.TraceLemmas.{made-is_trace}
use Rattle.workloads.proofs.making.make_trace.Goals as goal

pub returns-clause-made : goal.returns-clause-made
unfolding seeded_by
returns-clause-made c =
    trace-made c.args.kind c.args.size c.args.start _ c.new.result c.new-3.result c.seed_from_u64-draws.result c.all_lanes.new.draws c.seed_from_u64-draws.ensures
    c.in_ok-lanes.ensures c.new.ensures (c.new-3.ensures ∙ c.new-2.ensures.items)

pub returns-clause-grammar : goal.returns-clause-grammar
returns-clause-grammar c =
    subst IsTrace (sym (returns-clause-made c)) (made-is_trace c.args.kind c.args.size c.args.start)
