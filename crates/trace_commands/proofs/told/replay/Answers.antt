use Rattle.std.proofs.Common.{map}
use Rattle.trace_commands.proofs.DrivenLemmas.{replay-told}
use Rattle.trace_commands.proofs.told.replay.Goals as goal

pub returns : goal.returns
returns g c =
    replay-told (g.G.Gate.passed c.args.gate.now) c.args.trace.now c.in_ok-closed.field-0.closed
    (map (λ lane. lane.items) c.in_ok-closed.field-0.outcomes.items) c.in_ok-text.text.items c.requires c.in_ok-closed.ensures
    (rw c.as_slice.ensures.value at c.in_ok-text.ensures.alone)
