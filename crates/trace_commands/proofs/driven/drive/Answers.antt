use Rattle.std.proofs.Common.{map}
use Rattle.trace_commands.proofs.DrivenLemmas.{run-of}
use Rattle.trace_commands.proofs.driven.drive.Goals as goal

pub returns : goal.returns
returns g c =
    run-of (g.G.Gate.passed c.args.gate.now) c.args.trace.now c.run_core.new.core (map (λ lane. lane.items) c.in_ok-outcomes.outcomes.items)
    (rw (← c.core.view_is) c.core.invariant) c.in_ok-outcomes.ensures.driven c.in_ok-outcomes.ensures.passed
